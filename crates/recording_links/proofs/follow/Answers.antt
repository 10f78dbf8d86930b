-- `recording_links::follow` meets its contract: each way out has the tests that led there.
use Rattle.recording_links.proofs.FollowLaws.{other-map, other-tracks, same_map}
use Rattle.recording_links.proofs.follow.Goals as goal

pub returns-then-not-same_bytes : goal.returns-then-not-same_bytes
returns-then-not-same_bytes c = other-map _ _ _ _ _ _ c.same_bytes.ensures (c.if-not-same_bytes.true)

pub returns-then-used-tracks : goal.returns-then-used-tracks
returns-then-used-tracks c =
    other-tracks _ _ _ _ _ _ c.same_bytes.ensures (c.if-not-same_bytes.false) c.if-used-tracks.true

pub returns : goal.returns
returns c =
    same_map _ _ _ _ _ _ c.same_bytes.ensures (c.if-not-same_bytes.false) c.if-used-tracks.false _ c.unavailable_bits-map.ensures _ c.continuation_along.ensures
