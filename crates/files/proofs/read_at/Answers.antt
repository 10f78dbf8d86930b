-- `files::read_at_lem` meets its contract: each way out has the tests that led there.
use mathlib.Core.Path.{◌≡◌, sym, ap, ◌∙◌}
use mathlib.Core.Bool.{Bool, true}
use Rattle.refusals.specs.Answers.{outcome_of}
use Rattle.slots.specs.Slot.{kind_of, readable}
use Rattle.files.proofs.Reading.{read-not_readable, read_short, read_done}
use borrow.Author.Rules.{rules}
use Rattle.files.proofs.read_at.Goals as goal

pub returns-then-not-is_readable : goal.returns-then-not-is_readable
returns-then-not-is_readable c =
    let readable_is : (t : Bool) → c.is_readable.result ≡ t → readable (kind_of c.args.s.now) ≡ t = λ _ q. ap readable (sym c.kind_of.ensures.0) ∙ sym c.is_readable.ensures ∙ q in
    read-not_readable _ _ _ _ (readable_is _ (c.if-not-is_readable.true)) _ (ap outcome_of c.refuse.ensures)

pub returns-then-buf-len : goal.returns-then-buf-len
returns-then-buf-len c =
    let readable_is : (t : Bool) → c.is_readable.result ≡ t → readable (kind_of c.args.s.now) ≡ t = λ _ q. ap readable (sym c.kind_of.ensures.0) ∙ sym c.is_readable.ensures ∙ q in
    let is_readable : readable (kind_of c.args.s.now) ≡ true = readable_is _ (c.if-not-is_readable.false) in
    read_short _ _ _ _ is_readable _ c.file_length-len.ensures.0 c.if-buf-len.true _ (ap outcome_of c.refuse-then-buf-len.ensures)

pub copy_body-requires : goal.copy_body-requires
copy_body-requires c =
    let readable_is : (t : Bool) → c.is_readable.result ≡ t → readable (kind_of c.args.s.now) ≡ t = λ _ q. ap readable (sym c.kind_of.ensures.0) ∙ sym c.is_readable.ensures ∙ q in
    let is_readable : readable (kind_of c.args.s.now) ≡ true = readable_is _ (c.if-not-is_readable.false) in
    c.requires is_readable

pub returns : goal.returns
returns c =
    let readable_is : (t : Bool) → c.is_readable.result ≡ t → readable (kind_of c.args.s.now) ≡ t = λ _ q. ap readable (sym c.kind_of.ensures.0) ∙ sym c.is_readable.ensures ∙ q in
    let is_readable : readable (kind_of c.args.s.now) ≡ true = readable_is _ (c.if-not-is_readable.false) in
    read_done _ _ _ _ is_readable _ c.file_length-len.ensures.0 c.if-buf-len.false _ c.copy_body.ensures
