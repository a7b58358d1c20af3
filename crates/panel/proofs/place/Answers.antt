-- The bytes of WX, FWX and the latch, from the whole record. Assumes nothing.
use lib.ListN.{get_or, set}
use Rattle.channels.specs.Channels.{saved}
use Rattle.panel.proofs.place.Goals as goal

pub returns : goal.returns
unfolding saved
returns c =
    let bytes = c.saved-bytes.ensures in
    let state = c.args.state.now in
    λ i. set (set (set (set (set state 13 (get_or (bytes i) 13 0)) 14 (get_or (bytes i) 14 0)) 24 (get_or (bytes i) 24 0)) 25 (get_or (bytes i) 25 0)) 26 (get_or (bytes i) 26 0)
