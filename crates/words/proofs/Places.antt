-- A slot of the words is read and replaced as one of a list, and the number stands beside the slots.
-- Assumes nothing.
use Prim.Native.Nat.{ℕ, zero, suc, ◌+◌, ◌*◌, ◌%◌, ◌<◌, ◌≤◌}
use mathlib.Core.Path.{◌≡◌, refl, ap, ◌∙◌}
use mathlib.Core.List.{List, [], ◌∷◌}
use mathlib.Core.Option.{some}
use native.Mathlib.Omega.{arith}
use lib.ListN.{length, get_or, get_elem?, set, length-set}
use lib.Seq.{get_or-set_same, get_or-set_other}
use Rattle.records.specs.declared.Record.{Record}
use Rattle.records.specs.Slots.{Slots, zeros}
use Rattle.records.specs.Number.{read_number, one_more, fewer}
use Rattle.records.proofs.Numbers.{read_low}
use Rattle.words.specs.Words.{decoded, slot_at, slots_from, slots_of, number_of, put_slot, with_number}

length_from : (w : List ℕ) (k n : ℕ) → length (slots_from w k n) ≡ n
length_from w k zero = refl
length_from w k (suc n) = ap suc (length_from w (suc k) n)

pub sixteen : (w : List ℕ) → length (slots_of w) ≡ 16
unfolding slots_of
sixteen w = length_from w 0 16

get_from : (w : List ℕ) (k n i : ℕ) → i < n → get_or (slots_from w k n) i zeros ≡ slot_at w (k + i)
get_from w k zero i h = absurd (omega arith)
get_from w k (suc n) zero h = let e : k ≡ k + 0 = omega arith in ap (slot_at w) e
get_from w k (suc n) (suc i) h = let e : suc k + i ≡ k + suc i = omega arith in get_from w (suc k) n i (omega arith) ∙ ap (slot_at w) e

pub slot_at_lem : (w : List ℕ) (i : ℕ) → i < 16 → get_or (slots_of w) i zeros ≡ slot_at w i
unfolding slots_of
slot_at_lem w i h = let e : 0 + i ≡ i = omega arith in get_from w 0 16 i h ∙ ap (slot_at w) e

-- words that agree on a slot
pub three :
    (v w : List ℕ) (k : ℕ)
    → get_or v (k * 3 + 16) 0 ≡ get_or w (k * 3 + 16) 0
    → get_or v (k * 3 + 17) 0 ≡ get_or w (k * 3 + 17) 0
    → get_or v (k * 3 + 18) 0 ≡ get_or w (k * 3 + 18) 0
    → slot_at v k ≡ slot_at w k
three v w k a b c = λ i. decoded (a i) (b i) (c i)

-- words whose slots agree have the same slots but one
agree_from : (v w : List ℕ) (j n : ℕ) → ((i : ℕ) → j ≤ i → i < j + n → slot_at v i ≡ slot_at w i) → slots_from v j n ≡ slots_from w j n
agree_from v w j zero f = refl
agree_from v w j (suc n) f = λ t. f j (omega arith) (omega arith) t ∷ agree_from v w (suc j) n (λ i a b. f i (omega arith) (omega arith)) t

pub agree : (v w : List ℕ) → ((i : ℕ) → i < 16 → slot_at v i ≡ slot_at w i) → slots_of v ≡ slots_of w
unfolding slots_of
agree v w f = agree_from v w 0 16 (λ i a b. f i (omega arith))

one_from :
    (v w : List ℕ) (j n i : ℕ) (s : Record) → i < n → slot_at v (j + i) ≡ s → ((l : ℕ) → (l ≡ j + i → ⊥) → slot_at v l ≡ slot_at w l)
    → slots_from v j n ≡ set (slots_from w j n) i s
one_from v w j zero i s h e f = absurd (omega arith)
one_from v w j (suc n) zero s h e f =
    let z : j ≡ j + 0 = omega arith in
    λ t. (ap (slot_at v) z ∙ e) t ∷ agree_from v w (suc j) n (λ l a b. f l (λ x. omega arith)) t
one_from v w j (suc n) (suc i) s h e f =
    let z : suc j + i ≡ j + suc i = omega arith in
    λ t. f j (λ x. omega arith) t ∷ one_from v w (suc j) n i s (omega arith) (ap (slot_at v) z ∙ e) (λ l x. f l (λ y. x (omega arith))) t

pub one_other : (v w : List ℕ) (k : ℕ) (s : Record) → k < 16 → slot_at v k ≡ s → ((l : ℕ) → (l ≡ k → ⊥) → slot_at v l ≡ slot_at w l) → slots_of v ≡ set (slots_of w) k s
unfolding slots_of
one_other v w k s h e f =
    let z : 0 + k ≡ k = omega arith in
    one_from v w 0 16 k s h (ap (slot_at v) z ∙ e) (λ l x. f l (λ y. x (omega arith)))

-- the words of a slot that is replaced, and the others
module _ (w : List ℕ) (k c b u : ℕ) where
  abbrev once : List ℕ
  once = set w (k * 3 + 16) c

  abbrev twice : List ℕ
  twice = set once (k * 3 + 17) b

  pub put_kept : (j : ℕ) → (j ≡ k * 3 + 16 → ⊥) → (j ≡ k * 3 + 17 → ⊥) → (j ≡ k * 3 + 18 → ⊥) → get_or (put_slot w k c b u) j 0 ≡ get_or w j 0
  unfolding put_slot
  put_kept j p q r =
      get_or-set_other twice (k * 3 + 18) j u 0 r ∙ get_or-set_other once (k * 3 + 17) j b 0 q ∙ get_or-set_other w (k * 3 + 16) j c 0 p

  pub length-put : length (put_slot w k c b u) ≡ length w
  unfolding put_slot
  length-put = simp length-set

  pub put_same : k < 16 → length w ≡ 64 → slot_at (put_slot w k c b u) k ≡ decoded c b u
  unfolding put_slot
  put_same h n =
      let x = get_or-set_other twice (k * 3 + 18) (k * 3 + 16) u 0 (λ e. omega arith) ∙ get_or-set_other once (k * 3 + 17) (k * 3 + 16) b 0 (λ e. omega arith)
      ∙ get_or-set_same w (k * 3 + 16) c 0 (omega arith) in
      let y = get_or-set_other twice (k * 3 + 18) (k * 3 + 17) u 0 (λ e. omega arith) ∙ get_or-set_same once (k * 3 + 17) b 0 (simp length-set (omega arith)) in
      let z = get_or-set_same twice (k * 3 + 18) u 0 (simp length-set (omega arith)) in
      λ i. decoded (x i) (y i) (z i)

  pub put_other : (l : ℕ) → (l ≡ k → ⊥) → slot_at (put_slot w k c b u) l ≡ slot_at w l
  put_other l f =
      three (put_slot w k c b u) w l
      (put_kept (l * 3 + 16) (λ e. f (omega arith)) (λ e. f (omega arith)) (λ e. f (omega arith)))
      (put_kept (l * 3 + 17) (λ e. f (omega arith)) (λ e. f (omega arith)) (λ e. f (omega arith)))
      (put_kept (l * 3 + 18) (λ e. f (omega arith)) (λ e. f (omega arith)) (λ e. f (omega arith)))

  pub put_slots : k < 16 → length w ≡ 64 → slots_of (put_slot w k c b u) ≡ set (slots_of w) k (decoded c b u)
  put_slots h n = one_other (put_slot w k c b u) w k (decoded c b u) h (put_same h n) (λ l x. put_other l x)

-- another first word leaves the slots
head_slots : (w : List ℕ) (x : ℕ) → slots_of (set w 0 x) ≡ slots_of w
head_slots w x =
    agree (set w 0 x) w
    (λ i h. three (set w 0 x) w i (get_or-set_other w 0 (i * 3 + 16) x 0 (λ e. omega arith)) (get_or-set_other w 0 (i * 3 + 17) x 0 (λ e. omega arith)) (get_or-set_other w 0 (i * 3 + 18) x 0 (λ e. omega arith)))

pub number_slots : (w : List ℕ) (n : ℕ) → slots_of (with_number w n) ≡ slots_of w
unfolding with_number
number_slots w n = head_slots w _

pub number_same : (w : List ℕ) (n : ℕ) → n < 256 → length w ≡ 64 → number_of (with_number w n) ≡ n
unfolding with_number number_of
number_same w n h l = ap (λ (y : ℕ). y % 256) (get_or-set_same w 0 _ 0 (omega arith)) ∙ omega arith

pub length_number : (w : List ℕ) (n : ℕ) → length (with_number w n) ≡ length w
unfolding with_number
length_number w n = simp length-set

pub number_low : (w : List ℕ) → number_of w < 256
unfolding number_of
number_low w = omega arith

-- what a request or a tick makes of a number is an octet too
pub more_low : (n : ℕ) → one_more n < 256
more_low n = omega (arith, read_low (suc (read_number n)))

pub fewer_low : (k n : ℕ) → n < 256 → fewer k n < 256
fewer_low zero n h = h
fewer_low (suc k) n h = omega (arith, read_low n)

-- the place of an element that is there
pub within : (t : Slots) (i : ℕ) (r : Record) → get_elem? t i ≡ some r → i < length t
within [] i r e = absurd (let z : ◌≡◌ {A = ℕ} 0 1 = cc in omega arith)
within (s ∷ t) zero r e = omega arith
within (s ∷ t) (suc i) r e = omega (arith, within t i r e)

pub residence_of : (w : List ℕ) (i : ℕ) → i < 16 → (get_or (slots_of w) i zeros).residence ≡ get_or w (i * 3 + 18) 0
unfolding decoded
residence_of w i h = ap (λ (s : Record). s.residence) (slot_at_lem w i h)
