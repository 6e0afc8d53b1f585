-- With S clear the first two-step node that does not refuse the Sync creates its Follow_Up.
-- Assumes nothing.
use Prim.Native.Nat.{ℕ}
use mathlib.Core.Path.{◌≡◌, refl, sym, ap, subst, ◌∙◌}
use mathlib.Core.Bool.{Bool, true, false, not, ◌||◌, true≢false}
use mathlib.Core.List.{List, ◌∷◌}
use mathlib.Core.Logic.{◌↔◌}
use mathlib.Core.Option.{some, some-injective}
use native.Mathlib.Omega.{arith}
use borrow.Author.Tests.{not-true}
use Rattle.refusal.specs.Answer.{Answer, value, refused}
use Rattle.refusal.proofs.Answers.{not_both}
use Rattle.records.specs.declared.Identity.{Identity}
use Rattle.rules.specs.Rules.{sync, kind_of, Mode, two_step, Word, created}
use Rattle.rules.specs.Path.{Stop, first_answer, FirstUnrefused, Every, of_sync, FirstWay}
use Rattle.rules.specs.Credited.{says, some_created, Skips, FirstToCreate}
use Rattle.rules.proofs.Calls.{FirstSays, refused_first, updated_first, created_first}
use Rattle.rules.proofs.Crossing.{answered_first, FirstAt, first_at, creator}
use Rattle.rules.proofs.Answered.{is_refused, not_refused}
use Rattle.rules.proofs.Pads.{first_way, sync_end, split}

-- ---- by the answer to a Sync with S clear

abbrev IsRefusal : Answer Word → Type 0
IsRefusal a = (i : ℕ) × (a ≡ refused i)

-- a two-step node that does not create refuses
skipped : {m : Mode} {a : Answer Word} → FirstSays m true a → says created (some a) ≡ false → m ≡ two_step → IsRefusal a
skipped (refused_first m b i) c o = (i, refl)
skipped (updated_first b) c o = absurd (let z : ◌≡◌ {A = ℕ} 0 1 = cc in omega arith)
skipped created_first c o = absurd (true≢false c)

-- and one that refuses does not create
skip_uncreated : {m : Mode} {a : Answer Word} → FirstSays m true a → (m ≡ two_step → IsRefusal a) → says created (some a) ≡ false
skip_uncreated (refused_first m b i) h = refl
skip_uncreated (updated_first b) h = refl
skip_uncreated created_first h = absurd (not_both (sym (h refl).1))

creates : {m : Mode} {a : Answer Word} → FirstSays m true a → m ≡ two_step → ((i : ℕ) → a ≡ refused i → ⊥) → a ≡ value created
creates (refused_first m b i) o u = absurd (u i refl)
creates (updated_first b) o u = absurd (let z : ◌≡◌ {A = ℕ} 0 1 = cc in omega arith)
creates created_first o u = refl

-- ---- along a path

module _ (q : Identity) where
  -- no node creates exactly if the two-step ones refuse
  none_yet :
      {s last : List ℕ} {ns : List Stop} → kind_of s ≡ sync q false → FirstWay s ns last
      → (some_created ns ≡ false) ↔ Every Skips ns
  none_yet e FirstWay.done = (λ c. tt, λ h. refl)
  none_yet e (FirstWay.cross {n = n} {ns = ns} {s = s} {r = r} v w) = go (says created (first_answer n)) refl (λ g. none_yet g w)
    where
      x : FirstAt q n s r v (of_sync false)
      x = first_at q n s r v (of_sync false) e

      answered : first_answer n ≡ some r.answer
      answered = answered_first q n s r v

      refusal : Skips n → n.mode ≡ two_step → IsRefusal r.answer
      refusal h o = let z = h o in (z.0, some-injective r.answer (refused z.0) (sym answered ∙ z.1))

      go :
          (b : Bool) → says created (first_answer n) ≡ b
          → (kind_of r.message ≡ sync q false → (some_created ns ≡ false) ↔ Every Skips ns)
          → (b || some_created ns ≡ false) ↔ Every Skips (n ∷ ns)
      go true p on = (
        λ c. absurd (true≢false c),
        λ h. absurd (true≢false (sym p ∙ ap (says created) answered ∙ skip_uncreated x.says_it (refusal h.0))),
      )
      go false p on =
          let z = on (x.grown.kind ∙ ap (sync q) p) in
          let here : Skips n = λ o. let y = skipped x.says_it (sym (ap (says created) answered) ∙ p) o in (y.0, answered ∙ ap some y.1) in
          (λ c. (here, z.0 c), λ h. z.1 h.1)

pub first_to_create : FirstToCreate
first_to_create q s last before after n e w =
    let x = split s last before (n ∷ after) w in
    go x.0 x.1 ((first_way (of_sync false) e x.1).kind ∙ sync_end q false before) x.2
  where
    go :
        (m : List ℕ) → FirstWay s before m → kind_of m ≡ sync q (some_created before) → FirstWay m (n ∷ after) last
        → (first_answer n ≡ some (value created)) ↔ ((n.mode ≡ two_step) × FirstUnrefused n × Every Skips before)
    go m w₀ g (FirstWay.cross {r = r} v w₁) = (
      λ c.
          let here = (first_at q n m r v (of_sync (some_created before)) g).says_it in
          let is : r.answer ≡ value created = some-injective r.answer (value created) (sym answered ∙ c) in
          let z = creator (subst (λ (a : Answer Word). FirstSays n.mode (not (some_created before)) a) is here) in
          (z.0, not_refused (ap is_refused c), (none_yet q e w₀).0 (not-true (some_created before) z.1)),
      λ h.
          let here = (first_at q n m r v (of_sync false) (g ∙ ap (sync q) ((none_yet q e w₀).1 h.2))).says_it in
          answered ∙ ap some (creates here h.0 (λ i f. h.1 i (answered ∙ ap some f))),
    )
      where
        answered : first_answer n ≡ some r.answer
        answered = answered_first q n m r v
