-- `nesting::all_codes` meets its contract: the table holds the directories of the first `i` slots.
use Prim.Native.Nat.{ℕ, ◌<◌}
use mathlib.Core.Path.{sym, ◌∙◌}
use native.Mathlib.Omega.{arith}
use lib.ListN.{length-replicate}
use Rattle.directory.specs.Places.{slots}
use Rattle.directory.specs.Directory.{slots_read}
use Rattle.directory.proofs.Ends.{read-most}
use Rattle.directory.proofs.Live.{met_live, met_dead}
use Rattle.nesting.proofs.Table.{tabling_none, tabling_dead, tabling_file, tabling_directory, refused-zero, refused-twice, tabling_few, zeros-at}
use Rattle.nesting.proofs.Results.{codes_end}
use Rattle.nesting.proofs.all_codes.Goals.{then-code-eq0-via-then-code-eq0, then-code-eq0-via-else-code-eq0+then-above-code-ne0, then-is_live+then-is_directory+else-code-eq0+else-above-code-ne0, else-is_live, else-is_live-via-then-is_live+else-is_directory, else-is_live-via-else-is_live}
use Rattle.nesting.proofs.all_codes.Goals as goal

pub loop-i-init : goal.loop-i-init
loop-i-init c = rw c.requires (tabling_none _ _ (length-replicate {A = ℕ} 256 0) (zeros-at 256))

pub returns-then-code-eq0 : goal.returns-then-code-eq0
returns-then-code-eq0 c =
    let read : c.loop-i.i < slots_read c.args.dir.now = omega (arith, c.slots_read-i-end.ensures.0) in
    let low : c.loop-i.i < slots = omega (arith, read, read-most c.args.dir.now) in
    let a = c.loop-i in
    let live = met_live _ _ c.slot_at-s.ensures c.is_live.ensures read c.if-is_live.true in
    let kind = sym c.is_directory.ensures ∙ c.if-is_directory.true in
    rw c.refuse.ensures
    (record {
      reply = sym (elim c.then-code-eq0.branch [
        | then-code-eq0-via-then-code-eq0 w ↦ refused-zero _ _ _ a.i a.invariant low _ live kind _ c.code_of-code.ensures.0 w.if-code-eq0.true
        | then-code-eq0-via-else-code-eq0+then-above-code-ne0 w ↦ refused-twice _ _ _ a.i a.invariant low _ live kind _ c.code_of-code.ensures.0 w.if-above-code-ne0.true
      ]);
      table = tt;
    })

pub overflow_add-number : goal.overflow_add-number
overflow_add-number c = let a = c.loop-i in omega (arith, tabling_few _ _ _ a.i a.invariant)

pub loop-i-preserved : goal.loop-i-preserved
loop-i-preserved c =
    let read : c.loop-i.i < slots_read c.args.dir.now = omega (arith, c.slots_read-i-end.ensures.0) in
    let low : c.loop-i.i < slots = omega (arith, read, read-most c.args.dir.now) in
    let a = c.loop-i in
    elim c.if-is_live.branch [
      | then-is_live+then-is_directory+else-code-eq0+else-above-code-ne0 w ↦
          rw (w.above-is, w.number-is)
          (tabling_directory _ _ _ a.i a.invariant low _ (met_live _ _ c.slot_at-s.ensures c.is_live.ensures read w.if-is_live.true)
          (sym w.is_directory.ensures ∙ w.if-is_directory.true) _ w.code_of-code.ensures.0 w.if-code-eq0.false w.if-above-code-ne0.false w.code_of-code.ensures.1 _ w.parent_of.ensures.0)
      | else-is_live w ↦
          rw (w.above-is, w.number-is)
          (elim w.else-is_live.branch [
            | else-is_live-via-then-is_live+else-is_directory u ↦
                tabling_file _ _ _ a.i a.invariant low _ (met_live _ _ c.slot_at-s.ensures c.is_live.ensures read u.if-is_live.true) (sym u.is_directory.ensures ∙ u.if-is_directory.false)
            | else-is_live-via-else-is_live u ↦ tabling_dead _ _ _ a.i a.invariant low (met_dead _ _ c.slot_at-s.ensures c.is_live.ensures u.if-is_live.false)
          ])
    ]

pub returns : goal.returns
returns c =
    let a = c.loop-i in
    codes_end _ _ _ a.i a.invariant (omega (arith, c.slots_read-i-end.ensures.0)) (omega (arith, c.slots_read-i-end.ensures.1))
