-- What a request and a tick leave in the words means what they do to slots and number.
-- Assumes nothing.
use Prim.Native.Nat.{ℕ, ◌<◌}
use mathlib.Core.Path.{◌≡◌, refl, sym, ap, ◌∙◌}
use mathlib.Core.Bool.{Bool, true, false}
use mathlib.Core.List.{List}
use mathlib.Core.Option.{Option, none, some}
use native.Mathlib.Omega.{arith}
use borrow.Author.Tests.{ltb-true}
use lib.ListN.{length, set}
use Rattle.refusal.specs.Answer.{Answer, value}
use Rattle.records.specs.declared.Identity.{Identity}
use Rattle.records.specs.declared.Record.{Record}
use Rattle.records.specs.Slots.{empty, holds, lowest, fresh, find, vacant, add_answer, add_to, collect_answer, remove_from, emptied}
use Rattle.records.specs.Node.{add, collect, nothing, add_leaves, collect_leaves, table_answer}
use Rattle.records.specs.Number.{one_more, fewer, added_to, taken_from}
use Rattle.words.specs.Words.{slots_of, number_of, packed_of, put_slot, put_record, empty_slot, with_number, added_words, collected_words, aged_to, tick_words}
use Rattle.words.specs.Answers.{Left, left, request_on}
use Rattle.words.specs.Meaning.{IdentityFits, RequestMeans, TickMeans}
use Rattle.words.proofs.Fields.{decoded_packed, decoded-zeros}
use Rattle.words.proofs.Places.{sixteen, put_slots, length-put, number_slots, number_same, number_low, more_low, fewer_low, within}
use Rattle.words.proofs.Ticks.{ticked_slots, length_aged}

module _ (w : List ℕ) (l : length w ≡ 64) where
  put_numbered : (k c b u n : ℕ) → n < 256 → number_of (with_number (put_slot w k c b u) n) ≡ n
  put_numbered k c b u n h = number_same (put_slot w k c b u) n h (length-put w k c b u ∙ l)

  added_slots : (q : Identity) (u n : ℕ) → IdentityFits q → lowest empty (slots_of w) < 16 → slots_of (with_number (put_record w (lowest empty (slots_of w)) (fresh q u)) n) ≡ add_to q u (slots_of w)
  added_slots q u n f h =
      let k = lowest empty (slots_of w) in
      let s = fresh q u in
      number_slots (put_record w k s) n
      ∙ put_slots w k s.clock (packed_of s) s.residence h l
      ∙ ap (set (slots_of w) k) (decoded_packed s (f, omega arith))

  removed_slots : (q : Identity) (n : ℕ) → lowest (holds q) (slots_of w) < 16 → slots_of (with_number (empty_slot w (lowest (holds q) (slots_of w))) n) ≡ remove_from q (slots_of w)
  removed_slots q n h =
      let k = lowest (holds q) (slots_of w) in
      number_slots (empty_slot w k) n ∙ put_slots w k 0 0 0 h l ∙ ap (set (slots_of w) k) decoded-zeros

  -- what is left, by the table's answer
  abbrev add_left : Identity → ℕ → Answer ℕ → Left
  add_left q u a =
      record {
        outcome = record { answer = a; slots = add_leaves q u (slots_of w) a; number = added_to (number_of w) a };
        words = added_words q u w a;
      }

  add_means : (q : Identity) (u : ℕ) → IdentityFits q → (r : Option Record) (b : Bool) → vacant (slots_of w) ≡ b → left (add_answer r b) (added_words q u w (add_answer r b)) ≡ add_left q u (add_answer r b)
  add_means q u f (some r) b e = refl
  add_means q u f none false e = refl
  add_means q u f none true e =
      let n = one_more (number_of w) in
      let k = lowest empty (slots_of w) in
      let h : k < 16 = omega (arith, ltb-true k (length (slots_of w)) e, sixteen w) in
      let s = added_slots q u n f h in
      let x = put_numbered k q.clock (packed_of (fresh q u)) u n (more_low (number_of w)) in
      λ i. record { outcome = record { answer = value 0; slots = s i; number = x i }; words = added_words q u w (value 0) }

  abbrev collect_left : Identity → Answer ℕ → Left
  collect_left q a =
      record {
        outcome = record { answer = a; slots = collect_leaves q (slots_of w) a; number = taken_from (number_of w) a };
        words = collected_words q w a;
      }

  collect_means : (q : Identity) (r : Option Record) → find q (slots_of w) ≡ r → left (collect_answer r) (collected_words q w (collect_answer r)) ≡ collect_left q (collect_answer r)
  collect_means q none e = refl
  collect_means q (some r) e =
      let n = fewer 1 (number_of w) in
      let k = lowest (holds q) (slots_of w) in
      let h : k < 16 = omega (arith, within (slots_of w) k r e, sixteen w) in
      let s = removed_slots q n h in
      let x = put_numbered k 0 0 0 n (fewer_low 1 (number_of w) (number_low w)) in
      λ i. record { outcome = record { answer = value r.residence; slots = s i; number = x i }; words = collected_words q w (value r.residence) }

pub request_means : RequestMeans
request_means nothing w l f = refl
request_means (add q u) w l f = add_means w l q u f (find q (slots_of w)) (vacant (slots_of w)) refl
request_means (collect q) w l f = collect_means w l q (find q (slots_of w)) refl

-- the same, by what the table answered
module _ (w : List ℕ) (l : length w ≡ 64) (q : Identity) (f : IdentityFits q) where
  pub add_answered : (u : ℕ) (a : Answer ℕ) → table_answer (add q u) (slots_of w) ≡ a → left a (added_words q u w a) ≡ request_on (add q u) w
  add_answered u a e = (λ i. left (sym e i) (added_words q u w (sym e i))) ∙ request_means (add q u) w l f

  pub collect_answered : (a : Answer ℕ) → table_answer (collect q) (slots_of w) ≡ a → left a (collected_words q w a) ≡ request_on (collect q) w
  collect_answered a e = (λ i. left (sym e i) (collected_words q w (sym e i))) ∙ request_means (collect q) w l f

pub tick_means : TickMeans
tick_means w l =
    let n = fewer (emptied (slots_of w)) (number_of w) in
    let s = number_slots (aged_to 16 w) n ∙ ticked_slots w l in
    let x = number_same (aged_to 16 w) n (fewer_low (emptied (slots_of w)) (number_of w) (number_low w)) (length_aged 16 w ∙ l) in
    λ i. record { outcome = record { answer = value (emptied (slots_of w)); slots = s i; number = x i }; words = tick_words w }
