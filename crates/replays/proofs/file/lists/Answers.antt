-- `replays::file::lists`: the text is no longer than its buffer (text_counts).
use Rattle.listing.proofs.Grows.{text_counts}
use Rattle.replays.proofs.file.lists.Goals as goal

pub slice_bounds-text-end : goal.slice_bounds-text-end
slice_bounds-text-end c = (text_counts _ _ _ _ c.text_of-n.ensures).0

pub slice_bounds-same_bytes-end : goal.slice_bounds-same_bytes-end
slice_bounds-same_bytes-end c = (text_counts _ _ _ _ c.text_of-n.ensures).1
