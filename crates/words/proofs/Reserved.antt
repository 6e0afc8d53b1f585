-- What is reserved stays: of the head, and of every slot that is neither emptied nor filled.
-- Assumes nothing.
use Prim.Native.Nat.{ℕ, zero, suc, ◌+◌, ◌*◌, ◌-◌, ◌/◌, ◌%◌, ◌<◌, ◌≤◌}
use mathlib.Core.Path.{◌≡◌, refl, sym, ap, ◌∙◌}
use mathlib.Core.Bool.{Bool, true, false, cond, not, and-eq-true_iff}
use mathlib.Core.List.{List, [], ◌∷◌}
use mathlib.Core.Option.{Option, none, some}
use native.Mathlib.Omega.{arith}
use borrow.Author.Tests.{ne_eqb, eqb-true, eqb-false, ltb-true, not-true}
use lib.Dec.{eqb}
use lib.ListN.{length, get_or}
use lib.Seq.{get_or-set_same, get_or-set_other}
use Rattle.refusal.specs.Answer.{Answer, value, refused}
use Rattle.records.specs.declared.Identity.{Identity}
use Rattle.records.specs.declared.Record.{Record}
use Rattle.records.specs.Slots.{Slots, empty, holds, same, identity_of, lowest, find, fresh, vacant, add_answer, collect_answer, aged_by, emptied, records_in, zeros}
use Rattle.records.specs.Node.{Request, nothing, add, collect}
use Rattle.records.specs.Number.{one_more, fewer}
use Rattle.records.proofs.Numbers.{records_few}
use Rattle.words.specs.Words.{decoded, slot_at, slots_of, number_of, packed_of, put_slot, with_number, added_words, collected_words, aged_words, age_slot, aged_to, filled_to, words_after, loaded_words}
use Rattle.words.specs.Meaning.{IdentityFits, RequestFits, LoadFits, HeadKept, SlotKept, Unchanged, ReservedKept}
use Rattle.words.proofs.Fields.{decoded_packed, decoded-zeros}
use Rattle.words.proofs.Places.{sixteen, slot_at_lem, put_kept, put_same, length-put, number_low, more_low, fewer_low, within}
use Rattle.words.proofs.Ticks.{aged_head, age_kept, aged_later, earlier_slot, length_aged}
use Rattle.words.proofs.Fills.{length_filled}

-- another number leaves the head, where it was left before
head_numbered : (w v : List ℕ) (n : ℕ) → length v ≡ 64 → n < 256 → ((j : ℕ) → j < 16 → get_or v j 0 ≡ get_or w j 0) → HeadKept w (with_number v n)
unfolding with_number
head_numbered w v n l h f =
    record {
      words = λ j a b. get_or-set_other v 0 j _ 0 (λ z. omega arith) ∙ f j b;
      bits = omega (arith, get_or-set_same v 0 (get_or v 0 0 / 256 * 256 + n) 0 (omega arith), f 0 (omega arith));
    }

-- and every word of the slots
later_word : (v : List ℕ) (n j : ℕ) → 16 ≤ j → get_or (with_number v n) j 0 ≡ get_or v j 0
unfolding with_number
later_word v n j h = get_or-set_other v 0 j _ 0 (λ z. omega arith)

slot_numbered : (w v : List ℕ) (n k : ℕ) → SlotKept w v k → SlotKept w (with_number v n) k
slot_numbered w v n k s =
    record {
      clock = later_word v n (k * 3 + 16) (omega arith) ∙ s.clock;
      packed = ap (λ (y : ℕ). y / 256) (later_word v n (k * 3 + 17) (omega arith)) ∙ s.packed;
      residence = later_word v n (k * 3 + 18) (omega arith) ∙ s.residence;
    }

same_slot : (v : List ℕ) (n k : ℕ) → slot_at (with_number v n) k ≡ slot_at v k
same_slot v n k =
    λ i. decoded (later_word v n (k * 3 + 16) (omega arith) i) (later_word v n (k * 3 + 17) (omega arith) i) (later_word v n (k * 3 + 18) (omega arith) i)

-- the slot that a search for p ends at passes
lowest_passes : (p : Record → Bool) (t : Slots) → lowest p t < length t → p (get_or t (lowest p t) zeros) ≡ true
lowest_passes p [] h = absurd (omega arith)
lowest_passes p (s ∷ t) h = go (p s) refl h (λ k. lowest_passes p t k)
  where
    go :
        (b : Bool) → p s ≡ b → cond b 0 (suc (lowest p t)) < suc (length t) → (lowest p t < length t → p (get_or t (lowest p t) zeros) ≡ true)
        → p (get_or (s ∷ t) (cond b 0 (suc (lowest p t))) zeros) ≡ true
    go true e h f = e
    go false e h f = f (omega arith)

held_filled : (q : Identity) (s : Record) → holds q s ≡ true → empty s ≡ false
unfolding holds
held_filled q s e = not-true (empty s) ((and-eq-true_iff (not (empty s)) (same q (identity_of s))).0 e).0

-- one slot replaced: what stood there was empty and no longer is, or the other way round
module _ (w : List ℕ) (l : length w ≡ 64) (k c b u n : ℕ) (h : k < 16) (m : n < 256) where
  replaced : (x y : Bool) → empty (slot_at w k) ≡ x → empty (decoded c b u) ≡ y → (x ≡ y → ⊥) → Unchanged w (with_number (put_slot w k c b u) n)
  replaced x y e f differ = (
    head_numbered w (put_slot w k c b u) n (length-put w k c b u ∙ l) m (λ j i. put_kept w k c b u j (λ z. omega arith) (λ z. omega arith) (λ z. omega arith)),
    λ j i g. slot_numbered w (put_slot w k c b u) n j (other j g (eqb j k) refl),
  )
    where
      other : (j : ℕ) → empty (slot_at (with_number (put_slot w k c b u) n) j) ≡ empty (slot_at w j) → (z : Bool) → eqb j k ≡ z → SlotKept w (put_slot w k c b u) j
      other j g true z =
          let j_is : j ≡ k = eqb-true j k z in
          let before : empty (slot_at w j) ≡ x = ap (λ (i : ℕ). empty (slot_at w i)) j_is ∙ e in
          let after : empty (slot_at (with_number (put_slot w k c b u) n) j) ≡ y =
          ap empty (same_slot (put_slot w k c b u) n j ∙ ap (slot_at (put_slot w k c b u)) j_is ∙ put_same w k c b u h l) ∙ f in
          absurd (differ (sym before ∙ sym g ∙ after))
      other j g false z =
          let o : j ≡ k → ⊥ = eqb-false j k z in
          record {
            clock = put_kept w k c b u (j * 3 + 16) (λ r. o (omega arith)) (λ r. o (omega arith)) (λ r. o (omega arith));
            packed = ap (λ (r : ℕ). r / 256) (put_kept w k c b u (j * 3 + 17) (λ r. o (omega arith)) (λ r. o (omega arith)) (λ r. o (omega arith)));
            residence = put_kept w k c b u (j * 3 + 18) (λ r. o (omega arith)) (λ r. o (omega arith)) (λ r. o (omega arith));
          }

-- words that are not touched
untouched : (w : List ℕ) → Unchanged w w
untouched w = (
  record { words = λ j a b. refl; bits = refl },
  λ k h e. record { clock = refl; packed = refl; residence = refl },
)

module _ (w : List ℕ) (l : length w ≡ 64) (q : Identity) (f : IdentityFits q) where
  after_add : (u : ℕ) (r : Option Record) (b : Bool) → vacant (slots_of w) ≡ b → Unchanged w (added_words q u w (add_answer r b))
  after_add u (some r) b e = untouched w
  after_add u none false e = untouched w
  after_add u none true e =
      let k = lowest empty (slots_of w) in
      let h : k < 16 = omega (arith, ltb-true k (length (slots_of w)) e, sixteen w) in
      let s = fresh q u in
      let was : empty (slot_at w k) ≡ true = ap empty (sym (slot_at_lem w k h)) ∙ lowest_passes empty (slots_of w) (omega (arith, sixteen w)) in
      let is : empty (decoded s.clock (packed_of s) s.residence) ≡ false = ap empty (decoded_packed s (f, omega arith)) in
      replaced w l k s.clock (packed_of s) s.residence (one_more (number_of w)) h (more_low (number_of w)) true false was is differ
    where
      differ : true ≡ false → ⊥
      differ e = let z : ◌≡◌ {A = ℕ} 0 1 = ap (λ (b : Bool). cond b 0 1) e in omega arith

  after_collect : (r : Option Record) → find q (slots_of w) ≡ r → Unchanged w (collected_words q w (collect_answer r))
  after_collect none e = untouched w
  after_collect (some r) e =
      let k = lowest (holds q) (slots_of w) in
      let h : k < 16 = omega (arith, within (slots_of w) k r e, sixteen w) in
      let was : empty (slot_at w k) ≡ false =
      ap empty (sym (slot_at_lem w k h)) ∙ held_filled q (get_or (slots_of w) k zeros) (lowest_passes (holds q) (slots_of w) (omega (arith, sixteen w))) in
      replaced w l k 0 0 0 (fewer 1 (number_of w)) h (fewer_low 1 (number_of w) (number_low w)) false true was (ap empty decoded-zeros) differ
    where
      differ : false ≡ true → ⊥
      differ e = let z : ◌≡◌ {A = ℕ} 1 0 = ap (λ (b : Bool). cond b 0 1) e in omega arith

-- a tick: the words of slot k are those that its own turn left
aged_at : (n : ℕ) (w : List ℕ) (k j : ℕ) → k < n → k * 3 + 16 ≤ j → j ≤ k * 3 + 18 → get_or (aged_to n w) j 0 ≡ get_or (age_slot (aged_to k w) k) j 0
aged_at zero w k j h a b = absurd (omega arith)
aged_at (suc n) w k j h a b = go (eqb k n) refl (λ i. aged_at n w k j i a b)
  where
    go : (z : Bool) → eqb k n ≡ z → (k < n → get_or (aged_to n w) j 0 ≡ get_or (age_slot (aged_to k w) k) j 0) → get_or (aged_to (suc n) w) j 0 ≡ get_or (age_slot (aged_to k w) k) j 0
    go true e f = ap (λ (i : ℕ). get_or (age_slot (aged_to i w) i) j 0) (sym (eqb-true k n e))
    go false e f =
        let o : k ≡ n → ⊥ = eqb-false k n e in
        age_kept (aged_to n w) n j (λ z. o (omega arith)) (λ z. o (omega arith)) (λ z. o (omega arith)) ∙ f (omega arith)

module _ (w : List ℕ) (l : length w ≡ 64) (k : ℕ) (h : k < 16) where
  abbrev then : List ℕ
  then = aged_to k w

  abbrev word : ℕ → ℕ
  word j = get_or then j 0

  own : (j : ℕ) → k * 3 + 16 ≤ j → word j ≡ get_or w j 0
  own j a = aged_later k w j a

  -- its turn, by its wait
  turn :
      (x : ℕ) → word (k * 3 + 17) % 256 ≡ x → (x ≡ 1 → ⊥)
      → (get_or (aged_words x then k) (k * 3 + 16) 0 ≡ word (k * 3 + 16))
      × (get_or (aged_words x then k) (k * 3 + 17) 0 / 256 ≡ word (k * 3 + 17) / 256)
      × (get_or (aged_words x then k) (k * 3 + 18) 0 ≡ word (k * 3 + 18))
  turn zero e o = (refl, refl, refl)
  turn (suc zero) e o = absurd (o refl)
  turn (suc (suc n)) e o =
      let b = word (k * 3 + 17) in
      let y = get_or-set_same then (k * 3 + 17) (b - 1) 0 (omega (arith, length_aged k w)) in (
        get_or-set_other then (k * 3 + 17) (k * 3 + 16) (b - 1) 0 (λ z. omega arith),
        ap (λ (i : ℕ). i / 256) y ∙ omega arith,
        get_or-set_other then (k * 3 + 17) (k * 3 + 18) (b - 1) 0 (λ z. omega arith),
      )

  -- so a slot whose wait is not 1 keeps all but that wait
  aged_kept : (get_or w (k * 3 + 17) 0 % 256 ≡ 1 → ⊥) → SlotKept w (aged_to 16 w) k
  aged_kept o =
      let e = own (k * 3 + 17) (omega arith) in
      let t = turn (word (k * 3 + 17) % 256) refl (λ z. o (ap (λ (i : ℕ). i % 256) (sym e) ∙ z)) in
      record {
        clock = aged_at 16 w k (k * 3 + 16) h (omega arith) (omega arith) ∙ t.0 ∙ own (k * 3 + 16) (omega arith);
        packed = ap (λ (i : ℕ). i / 256) (aged_at 16 w k (k * 3 + 17) h (omega arith) (omega arith)) ∙ t.1 ∙ ap (λ (i : ℕ). i / 256) e;
        residence = aged_at 16 w k (k * 3 + 18) h (omega arith) (omega arith) ∙ t.2 ∙ own (k * 3 + 18) (omega arith);
      }

  -- and one whose wait is 1 is emptied
  emptied_slot : get_or w (k * 3 + 17) 0 % 256 ≡ 1 → empty (slot_at (aged_to 16 w) k) ≡ empty (slot_at w k) → ⊥
  unfolding decoded
  emptied_slot e f =
      let was : empty (slot_at w k) ≡ false = ne_eqb (get_or w (k * 3 + 17) 0 % 256) 0 (λ z. omega arith) in
      let is : empty (slot_at (aged_to 16 w) k) ≡ true =
      ap empty (earlier_slot 16 w k l (omega arith) h ∙ ap (λ (n : ℕ). aged_by n (slot_at w k)) e) in
      let z : ◌≡◌ {A = ℕ} 0 1 = ap (λ (b : Bool). cond b 0 1) (sym is ∙ f ∙ was) in
      omega arith

after_tick : (w : List ℕ) → length w ≡ 64 → Unchanged w (with_number (aged_to 16 w) (fewer (emptied (slots_of w)) (number_of w)))
after_tick w l =
    let v = aged_to 16 w in
    let n = fewer (emptied (slots_of w)) (number_of w) in (
      head_numbered w v n (length_aged 16 w ∙ l) (fewer_low (emptied (slots_of w)) (number_of w) (number_low w)) (λ j i. aged_head 16 w j i),
      λ k h e. slot_numbered w v n k (go k h (sym (ap empty (same_slot v n k)) ∙ e) (eqb (get_or w (k * 3 + 17) 0 % 256) 1) refl),
    )
  where
    go : (k : ℕ) → k < 16 → empty (slot_at (aged_to 16 w) k) ≡ empty (slot_at w k) → (b : Bool) → eqb (get_or w (k * 3 + 17) 0 % 256) 1 ≡ b → SlotKept w (aged_to 16 w) k
    go k h e true p = absurd (emptied_slot w l k h (eqb-true (get_or w (k * 3 + 17) 0 % 256) 1 p) e)
    go k h e false p = aged_kept w l k h (eqb-false (get_or w (k * 3 + 17) 0 % 256) 1 p)

-- a load
filled_head : (n : ℕ) (t : Slots) (w : List ℕ) (j : ℕ) → j < 16 → get_or (filled_to n t w) j 0 ≡ get_or w j 0
filled_head zero t w j h = refl
filled_head (suc n) t w j h =
    let s = get_or t n zeros in
    put_kept (filled_to n t w) n s.clock (packed_of s) s.residence j (λ z. omega arith) (λ z. omega arith) (λ z. omega arith) ∙ filled_head n t w j h

pub reserved_kept : ReservedKept
reserved_kept = (after_request, after_tick, after_load)
  where
    after_request : (r : Request) (w : List ℕ) → length w ≡ 64 → RequestFits r → Unchanged w (words_after r w)
    after_request nothing w l f = untouched w
    after_request (add q u) w l f = after_add w l q f u (find q (slots_of w)) (vacant (slots_of w)) refl
    after_request (collect q) w l f = after_collect w l q f (find q (slots_of w)) refl

    after_load : (a : Answer Slots) (w : List ℕ) → length w ≡ 64 → LoadFits a → HeadKept w (loaded_words w a)
    after_load (value t) w l f =
        head_numbered w (filled_to 16 t w) (records_in t) (length_filled 16 t w ∙ l) (omega (arith, records_few t, f.0)) (λ j h. filled_head 16 t w j h)
    after_load (refused n) w l f = (untouched w).0
