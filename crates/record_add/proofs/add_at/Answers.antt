-- `record_add::add_at` meets its contract: each way out has the tests that led there.
use mathlib.Core.Path.{ap}
use native.Mathlib.Omega.{arith}
use Rattle.refusals.specs.Answers.{outcome_of}
use Rattle.record_add.proofs.PieceResult.{at-few, inner_rise, at-fits, at-short, at_done, at_completes}
use Rattle.record_add.proofs.add_at.Goals as goal

pub returns-then-free_of-n : goal.returns-then-free_of-n
returns-then-free_of-n c =
    at-few _ _ _ _ _ _ c.requires _ c.free_of.ensures _ c.sectors_of-n.ensures c.if-free_of-n.true _ (ap outcome_of c.refuse.ensures)

pub overflow_sub-count : goal.overflow_sub-count
overflow_sub-count c =
    omega (arith, inner_rise _ _ _ c.args.kept.now c.args.piece.now c.args.list.now c.requires _ c.free_of.ensures _ c.sectors_of-n.ensures c.if-free_of-n.false _ c.sectors_of.ensures _ _ c.saturating_sub.ensures c.saturating_sub-2.ensures)

pub returns-then-list-count : goal.returns-then-list-count
returns-then-list-count c =
    at-short _ _ _ _ _ _ c.requires _ c.free_of.ensures _ c.sectors_of-n.ensures c.if-free_of-n.false _ c.sectors_of.ensures _ _ c.saturating_sub.ensures c.saturating_sub-2.ensures c.if-list-count.true _ (ap outcome_of c.refuse-then-list-count.ensures)

pub write_piece-requires : goal.write_piece-requires
write_piece-requires c =
    at_completes _ _ _ _ _ _ c.requires _ c.free_of.ensures _ c.sectors_of-n.ensures c.if-free_of-n.false _ c.sectors_of.ensures _ _ c.saturating_sub.ensures c.saturating_sub-2.ensures _ c.unavailable_bits-map.ensures c.if-list-count.false

pub grow-requires : goal.grow-requires
grow-requires c =
    at-fits _ _ _ c.args.kept.now c.args.piece.now c.args.list.now c.requires _ c.free_of.ensures _ c.sectors_of-n.ensures c.if-free_of-n.false _ c.sectors_of.ensures _ _ c.saturating_sub.ensures c.saturating_sub-2.ensures

pub returns : goal.returns
returns c =
    at_done _ _ _ _ _ _ c.requires _ c.free_of.ensures _ c.sectors_of-n.ensures c.if-free_of-n.false _ c.sectors_of.ensures _ _ c.saturating_sub.ensures c.saturating_sub-2.ensures c.if-list-count.false _ _ c.write_piece.ensures _ c.grow.ensures
