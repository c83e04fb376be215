mod Faces
mod Replaced
