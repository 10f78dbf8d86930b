-- `report_bytes::put_four` meets its contract: four stores are one put.
use Rattle.std.proofs.Common.{ℕ, List, [], ◌∷◌, get_or, ap, ◌∙◌}
use Rattle.buffers.specs.Bytes.{put}
use Rattle.report_bytes.proofs.Fours.{four_put}
use Rattle.report_bytes.proofs.put_four.Goals as goal

pub returns : goal.returns
returns c =
    four_put _ _ _ _ _ _
    ∙ ap (λ (l : List ℕ). put c.args.bytes.now c.args.at (get_or l 0 0 ∷ get_or l 1 0 ∷ get_or l 2 0 ∷ get_or l 3 0 ∷ [])) c.to_le_bytes-four.ensures
