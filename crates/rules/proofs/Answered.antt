-- Both messages at a node: what it may answer to them, what its answers put on the two pads, and what its refusals cost.
-- Assumes nothing.
use Prim.Native.Nat.{ℕ, ◌+◌}
use mathlib.Core.Path.{◌≡◌, refl, sym, ap, ◌∙◌, subst}
use mathlib.Core.Bool.{Bool, true, false, cond, ◌||◌, true≢false}
use mathlib.Core.List.{List}
use mathlib.Core.Logic.{◌↔◌, inl, inr}
use mathlib.Core.Option.{Option, none, some, none-ne-some, some-injective}
use native.Mathlib.Omega.{arith}
use Rattle.refusal.specs.Answer.{Answer, value, refused}
use Rattle.refusal.proofs.Answers.{not_both, its_number}
use Rattle.records.specs.declared.RecordKind.{RecordKind}
use Rattle.records.specs.declared.Identity.{Identity}
use Rattle.rules.specs.Rules.{sync, second_of, kind_of, Mode, two_step, Word, updated, created, waiting, added, Reply}
use Rattle.rules.specs.Path.{Stop, Visit, of_sync, Uncrossed, first_answer, second_answer, answer_at, residence_at}
use Rattle.rules.specs.Credited.{says, counts, credit_at, FirstNumber, Missed, Cost}
use Rattle.rules.proofs.Calls.{when, FirstSays, refused_first, updated_first, created_first, waiting_first, FirstGiven, SecondSays, refused_second, passed_second, added_second, SecondGiven}
use Rattle.rules.proofs.Crossing.{asked, of_kind, updated_at, created_at, added_at, answered_first, first_at}
use Rattle.rules.proofs.Collecting.{Ready, answered_second, SecondAt, second_at, added_waited}
use Rattle.rules.proofs.Refusals.{from_table, answered, first_says, first_given, first_number, second_number, Missed-refused, refused-Missed}

-- what a node may answer to the two, where the second crosses it and where it does not; what is added waited
pub data Says : Mode → Option (Answer Word) → Option (Answer Word) → Type 0 where
  says_both : {m : Mode} {a b : Answer Word} → FirstSays m false a → SecondSays m b → (b ≡ value added → a ≡ value waiting) → Says m (some a) (some b)
  says_first : {m : Mode} {a : Answer Word} → FirstSays m true a → Says m (some a) none

abbrev SaysAt : Stop → Type 0
SaysAt n = Says n.mode (first_answer n) (second_answer n)

says_at : (n : Stop) {o p : Option (Answer Word)} → first_answer n ≡ o → second_answer n ≡ p → Says n.mode o p → SaysAt n
says_at n {o} e f h =
    subst (λ (x : Option (Answer Word)). Says n.mode x (second_answer n)) (sym e)
    (subst (λ (x : Option (Answer Word)). Says n.mode o x) (sym f) h)

-- what a path shows of each node
pub record Answered (q : Identity) (n : Stop) : Type 0 where
  pub answers : SaysAt n
  pub cost : Cost q n

-- what goes on the two pads is the node's credit, once
once : {m : Mode} {o p : Option (Answer Word)} (u : ℕ) → Says m o p
    → when updated o u + (when created o u + when added p u) ≡ cond (counts o || counts p) u 0
once u (says_both (refused_first m b i) (refused_second j) w) = refl
once u (says_both (refused_first m b i) passed_second w) = refl
once u (says_both (refused_first m b i) added_second w) = omega arith
once u (says_both (updated_first b) passed_second w) = omega arith
once u (says_both waiting_first (refused_second j) w) = refl
once u (says_both waiting_first added_second w) = omega arith
once u (says_first (refused_first m b i)) = refl
once u (says_first (updated_first b)) = omega arith
once u (says_first created_first) = omega arith

pub credited_once : (q : Identity) (n : Stop) → Answered q n → updated_at n + (created_at n + added_at n) ≡ credit_at n
credited_once q n s = once (residence_at n) s.answers

-- and it has one exactly if it refused neither
abbrev pub is_refused : Option (Answer Word) → Bool
is_refused none = false
is_refused (some (value w)) = false
is_refused (some (refused n)) = true

abbrev NotRefused : Option (Answer Word) → Type 0
NotRefused o = (i : ℕ) → o ≡ some (refused i) → ⊥

pub not_refused : {o : Option (Answer Word)} → is_refused o ≡ false → NotRefused o
not_refused f i e = true≢false (sym (ap is_refused e) ∙ f)

abbrev CountsUnlessRefused : Option (Answer Word) → Option (Answer Word) → Type 0
CountsUnlessRefused o p = (counts o || counts p ≡ true) ↔ (NotRefused o × NotRefused p)

module _ {o p : Option (Answer Word)} where
  counted : is_refused o ≡ false → is_refused p ≡ false → counts o || counts p ≡ true → CountsUnlessRefused o p
  counted f g h = (λ e. (not_refused f, not_refused g), λ u. h)

  uncounted : counts o || counts p ≡ false → (NotRefused o × NotRefused p → ⊥) → CountsUnlessRefused o p
  uncounted h g = (λ e. absurd (true≢false (sym e ∙ h)), λ u. absurd (g u))

unless_refused : {m : Mode} {o p : Option (Answer Word)} → Says m o p → CountsUnlessRefused o p
unless_refused (says_both (refused_first m b i) (refused_second j) w) = uncounted refl (λ u. u.0 i refl)
unless_refused (says_both (refused_first m b i) passed_second w) = uncounted refl (λ u. u.0 i refl)
unless_refused (says_both (refused_first m b i) added_second w) = absurd (not_both (w refl))
unless_refused (says_both (updated_first b) passed_second w) = counted refl refl refl
unless_refused (says_both waiting_first (refused_second j) w) = uncounted refl (λ u. u.1 j refl)
unless_refused (says_both waiting_first added_second w) = counted refl refl refl
unless_refused (says_first (refused_first m b i)) = uncounted refl (λ u. u.0 i refl)
unless_refused (says_first (updated_first b)) = counted refl refl refl
unless_refused (says_first created_first) = counted refl refl refl

-- ---- a node that the second message crosses

none_created : {m : Mode} {a : Answer Word} → FirstSays m false a → says created (some a) ≡ false
none_created (refused_first m b i) = refl
none_created (updated_first b) = refl
none_created waiting_first = refl

-- nothing is created there
pub uncreated : (a : RecordKind) (q : Identity) (n : Stop) (y : Ready a q n) → says created (first_answer n) ≡ false
uncreated a q n y = ap (says created) (answered a q n y) ∙ none_created (first_says a q n y)

module _
    (a : RecordKind) (q : Identity) (n : Stop) (y : Ready a q n) (k : ℕ) (place : n.second_place ≡ some k) (f : List ℕ) (r : Reply) (v : Visit n k f r)
    (e : kind_of f ≡ second_of a q) where
  at_second : SecondAt a q n y k place f r v e
  at_second = second_at a q n y k place f r v e

  said : second_answer n ≡ some r.answer
  said = answered_second a q n y k place f r v e

  -- an answer of it is the reply's
  out : (b : Answer Word) → second_answer n ≡ some b → r.answer ≡ b
  out b h = some-injective r.answer b (sym said ∙ h)

  both : SaysAt n
  both = says_at n (answered a q n y) said (says_both (first_says a q n y) at_second.says_it (added_waited a q n y k place f r v e))

  second_where : (j : ℕ) → n.mode ≡ two_step → n.second_place ≡ some j → (second_answer n ≡ some (refused 15)) ↔ Missed n j
  second_where j o p =
      let same : k ≡ j = some-injective k j (sym place ∙ p) in
      subst (λ (i : ℕ). (second_answer n ≡ some (refused 15)) ↔ Missed n i) same
      (λ h. refused-Missed a q n y k place f r v e o (out (refused 15) h), λ m. said ∙ ap some (Missed-refused a q n y k place f r v e o m))

  pub crossed : Answered q n
  crossed =
      let t = from_table a q n y in
      record {
        answers = both;
        cost =
            record {
              credit = unless_refused both;
              first_with =
                  λ i h. first_number a q n y k place f r v e i
                  (its_number (FirstGiven t n.mode false) y.reply.answer i (first_given a q n y)
                  (some-injective y.reply.answer (refused i) (sym (answered a q n y) ∙ h)));
              second_with =
                  λ i h. second_number a q n y k place f r v e i
                  (its_number (SecondGiven (asked n k f r v) n.mode) r.answer i at_second.number (out (refused i) h));
              second_where = second_where;
            };
      }

-- ---- and one that it does not cross

module _ (q : Identity) (n : Stop) (s : List ℕ) (r : Reply) (v : Visit n n.first_place s r) (e : kind_of s ≡ sync q false) (u : Uncrossed n) where
  own_number :
      (i : ℕ) → FirstGiven (asked n n.first_place s r v) n.mode true i → FirstNumber q n i
  own_number i (inl (inl z)) = inl z
  own_number i (inl (inr z)) = inr (inl z)
  own_number i (inr (o, z)) = inr (inr (o, inl (z, (v.handed, v.here, of_kind n n.first_place s r v (sync q false) e))))

  pub uncrossed : Answered q n × (added_at n ≡ 0)
  uncrossed =
      let one = first_at q n s r v (of_sync false) e in
      let told = answered_first q n s r v in
      let alone = says_at n told (ap (answer_at n) u) (says_first one.says_it) in (
        record {
          answers = alone;
          cost =
              record {
                credit = unless_refused alone;
                first_with =
                    λ i h. own_number i
                    (its_number (FirstGiven (asked n n.first_place s r v) n.mode true) r.answer i one.number
                    (some-injective r.answer (refused i) (sym told ∙ h)));
                second_with = λ i h. absurd (none-ne-some (refused i) (sym (ap (answer_at n) u) ∙ h));
                second_where = λ j o p. absurd (none-ne-some j (sym u ∙ p));
              };
        },
        ap (λ (k : Option ℕ). when added (answer_at n k) (residence_at n)) u,
      )
