-- `place`: the test that the code makes of a slot is that of the identity's record.
use Rattle.std.proofs.Common.{◌≡◌, ℕ, ◌+◌, ◌*◌, ◌/◌, ◌%◌, ◌<◌, Bool, not, ◌&&◌, eqb, List, get_or, sym, ap, ◌∙◌, arith}
use Rattle.records.specs.declared.Identity.{Identity}
use Rattle.records.specs.Slots.{holds, zeros}
use Rattle.words.specs.Words.{slots_of, key_of}
use Rattle.words.specs.Meaning.{IdentityFits}
use Rattle.words.proofs.Fields.{hits}
use Rattle.words.proofs.Places.{sixteen, slot_at_lem}
use Rattle.lent.proofs.Search.{search_here, search_on}
use Rattle.lent.proofs.operations.place.Goals as goal

-- the test of slot i, as the code makes it
abbrev tested : List ℕ → ℕ → ℕ → ℕ → Bool
tested w i clock key =
    (eqb key (get_or w (i * 3 + 17) 0 / 65536 % 8589934592) && not (eqb (get_or w (i * 3 + 17) 0 % 256) 0)) && eqb clock (get_or w (i * 3 + 16) 0)

-- and what it says of an identity
says : (w : List ℕ) (i : ℕ) (q : Identity) (clock key : ℕ) → i < 16 → key ≡ key_of q → clock ≡ q.clock → IdentityFits q
    → holds q (get_or (slots_of w) i zeros) ≡ tested w i clock key
says w i q clock key h e f g =
    ap (holds q) (slot_at_lem w i h)
    ∙ sym (hits q (get_or w (i * 3 + 16) 0) (get_or w (i * 3 + 17) 0) (get_or w (i * 3 + 18) 0) g)
    ∙ (λ t. tested w i (sym f t) (sym e t))

pub loop-i-init : goal.loop-i-init
loop-i-init c = (omega arith, λ q e f g. (omega arith, sixteen _, omega arith))

pub returns-then-holds : goal.returns-then-holds
returns-then-holds c = λ q e f g.
    let w = c.args.words.now in
    let i = c.loop-i.i in
    search_here (holds q) (slots_of w) i (c.loop-i.invariant.1 q e f g) (omega arith)
    (says w i q _ _ (omega arith) e f g ∙ sym c.holds.ensures ∙ c.if-holds.true)

pub loop-i-preserved : goal.loop-i-preserved
loop-i-preserved c =
    let w = c.args.words.now in
    let i = c.loop-i.i in (
      omega arith,
      λ q e f g.
          search_on (holds q) (slots_of w) i (c.loop-i.invariant.1 q e f g) (omega arith)
          (says w i q _ _ (omega arith) e f g ∙ sym c.holds.ensures ∙ c.if-holds.false),
    )
