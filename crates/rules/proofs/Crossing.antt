-- A message at a node of the path, and the first one: what the node answers, and what that adds to the pads. A one-step node puts the
-- residence on the first message, a two-step node on the second.
-- Assumes nothing.
use Prim.Native.Nat.{ℕ, ◌+◌, ◌-◌, ◌<◌, ◌^◌}
use mathlib.Core.Path.{◌≡◌, refl, sym, ap, ◌∙◌, subst}
use mathlib.Core.Bool.{Bool, true, false}
use mathlib.Core.List.{List}
use mathlib.Core.Option.{some}
use native.Mathlib.Omega.{arith}
use borrow.Author.Tests.{lt-leb}
use lib.IntN.{ℤ, pos}
use lib.ListN.{take}
use Rattle.refusal.specs.Answer.{Answer, value}
use Rattle.refusal.proofs.Answers.{Numbered}
use Rattle.residence.specs.Residence.{accepted_of}
use Rattle.records.specs.declared.Identity.{Identity}
use Rattle.records.specs.Node.{table_answer, final}
use Rattle.scratch_pad.specs.Sum.{raised}
use Rattle.scratch_pad.proofs.Held.{raised_more}
use Rattle.rules.specs.Change.{pad_of}
use Rattle.rules.specs.Rules.{Kind, sync, follow_up, kind_of, Mode, two_step, Word, updated, created, added, Reply, rules}
use Rattle.rules.specs.Path.{Stop, Visit, First, answer_in, first_answer, second_answer, units_of, units_in, residence_at}
use Rattle.rules.proofs.Calls.{when, clear, next, FirstSays, created_first, FirstGiven, first_call, sync-created}
use Rattle.rules.proofs.Laws.{came_to}

-- octets of this kind, with n more on the pad
pub record Grown (k : Kind) (m m' : List ℕ) (n : ℕ) : Type 0 where
  pub kind : kind_of m' ≡ k
  pub pad : pad_of m' ≡ raised (pad_of m) n

pub grown_more : (k l : Kind) (a b c : List ℕ) (m n : ℕ) → Grown k a b m → Grown l b c n → Grown l a c (m + n)
grown_more k l a b c m n g h =
    record { kind = h.kind; pad = h.pad ∙ ap (λ (z : ℤ). raised z n) g.pad ∙ raised_more (pad_of a) m n }

-- a visit, in the terms of the call's laws
module _ (n : Stop) (k : ℕ) (m : List ℕ) (r : Reply) (v : Visit n k m r) where
  abbrev pub asked : Answer ℕ
  asked = table_answer (rules.request v.handed) (final rules n.table (take k n.events))

  pub came : r ≡ rules.reply v.handed asked
  came = came_to n.table n.events k v.handed r v.here v.outcome

  in_mode : (o : Mode) → n.mode ≡ o → v.handed.mode ≡ o
  in_mode o e = v.mode ∙ e

  pub of_kind : (x : Kind) → kind_of m ≡ x → kind_of v.handed.message ≡ x
  of_kind x e = ap kind_of v.octets ∙ e

-- where a node's residence goes, by its answers: on the first message's pad, or on the second's, which is created with it or gets it added
abbrev pub updated_at : Stop → ℕ
updated_at n = when updated (first_answer n) (residence_at n)

abbrev pub created_at : Stop → ℕ
created_at n = when created (first_answer n) (residence_at n)

abbrev pub added_at : Stop → ℕ
added_at n = when added (second_answer n) (residence_at n)

-- ---- the first message at a node

module _ (q : Identity) (n : Stop) (s : List ℕ) (r : Reply) (v : Visit n n.first_place s r) where
  pub first_units : units_of (accepted_of v.handed.residence) ≡ residence_at n
  first_units = sym (ap units_in v.here)

  pub answered_first : first_answer n ≡ some r.answer
  answered_first = ap answer_in v.outcome

  pub record FirstAt {k : Kind} (f : First q k) : Type 0 where
    pub says_it : FirstSays n.mode (clear f) r.answer
    pub number : Numbered (FirstGiven (asked n n.first_place s r v) n.mode (clear f)) r.answer
    pub grown : Grown (next f (first_answer n)) s r.message (updated_at n)

  pub first_at : {k : Kind} (f : First q k) → kind_of s ≡ k → FirstAt f
  first_at {k} f e =
      let i = n.first_place in
      let c = v.handed in
      let x = first_call c (asked n i s r v) q f n.mode v.mode (of_kind n i s r v k e) in
      let g = came n i s r v in
      let z : r.answer ≡ (rules.reply c (asked n i s r v)).answer = ap (λ (y : Reply). y.answer) g in
      let o : some (rules.reply c (asked n i s r v)).answer ≡ first_answer n = ap some (sym z) ∙ sym answered_first in
      record {
        says_it = subst (λ (a : Answer Word). FirstSays n.mode (clear f) a) (sym z) x.says_it;
        number = subst (λ (a : Answer Word). Numbered (FirstGiven (asked n i s r v) n.mode (clear f)) a) (sym z) x.number;
        grown =
            record {
              kind = ap (λ (y : Reply). kind_of y.message) g ∙ x.kind ∙ ap (next f) o;
              pad =
                  ap (λ (y : Reply). pad_of y.message) g
                  ∙ x.pad
                  ∙ (λ j. raised (pad_of (v.octets j)) (when updated (o j) (first_units j)));
            };
      }

  -- the Follow_Up that is born there
  pub sync_creates :
      n.mode ≡ two_step → kind_of s ≡ sync q false → r.answer ≡ value created
      → (kind_of (take 36 r.output) ≡ follow_up q) × (pad_of (take 36 r.output) ≡ raised (pos 0) (residence_at n))
  sync_creates o e a =
      let i = n.first_place in
      let c = v.handed in
      let g = came n i s r v in
      let x = sync-created c (asked n i s r v) q (in_mode n i s r v two_step o) (of_kind n i s r v (sync q false) e) (sym (ap (λ (y : Reply). y.answer) g) ∙ a) in (
        ap (λ (y : Reply). kind_of (take 36 y.output)) g ∙ x.kind,
        ap (λ (y : Reply). pad_of (take 36 y.output)) g ∙ x.pad ∙ ap pos first_units ∙ plain (residence_at n) (omega (arith, x.small, first_units)),
      )
    where
      plain : (u : ℕ) → u < 2 ^ 62 → pos u ≡ raised (pos 0) u
      plain u l = rw (lt-leb (2 ^ 63 - 1) (0 + u) (omega arith)) (ap pos (omega arith))

-- a node that creates is two-step, and got a Sync with S clear
pub creator : {m : Mode} {b : Bool} → FirstSays m b (value created) → (m ≡ two_step) × (b ≡ true)
creator created_first = (refl, refl)
