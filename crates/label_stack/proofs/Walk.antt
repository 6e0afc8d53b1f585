-- The walks over the two lists: the entries behind an octet, and the hops that were searched in vain.
-- Assumes nothing.
use Prim.Native.Nat.{ℕ, suc, ◌+◌, ◌-◌, ◌<◌, ◌≤◌}
use mathlib.Core.Path.{◌≡◌, sym, ap, ◌∙◌}
use mathlib.Core.Bool.{true, false, cond, true≢false, and-eq-true_iff}
use mathlib.Core.List.{List, [], ◌∷◌}
use mathlib.Core.Option.{Option, none, some}
use native.Mathlib.Omega.{arith}
use native.Mathlib.Numerals.{add-one}
use borrow.Author.Tests.{lt-ltb, ltb-true, lt-leb}
use lib.Dec.{ltb}
use lib.ListN.{length, get_or, take, drop, length-drop, drop_of_length-le}
use lib.Seq.{drop-cons, drop-drop, get_or-drop, length-take-le}
use Rattle.refusal.specs.Answer.{and_then}
use Rattle.rtm_set.specs.Entries.{front_size, is_entry, entries_in, Sound}
use Rattle.rtm_set.proofs.Rest.{Front, front}
use Rattle.rtm_set.proofs.Counts.{front_least}
use Rattle.rtm_set.proofs.Sound.{entry_first, rest_sound, first_rest}
use Rattle.label_stack.specs.Ttl.{occurs, timing_at, next_timing, found, searched, ttl_of}
use Rattle.label_stack.proofs.Least.{NonePasses, least_is, least-none}

-- an entry stands at octet i of a list, and its second octet tells its length
pub entry_at : (s : List ℕ) (i : ℕ) → Sound (drop i s) → i < length s → Front (drop i s) (get_or s (i + 1) 0)
entry_at s i sound h =
    let n = front_size (drop i s) in
    let is = entry_first (drop i s) sound (λ z. omega (arith, length-drop i s)) in
    let size : n ≡ cond (is_entry (drop i s)) n 0 = rw is in
    front (drop i s) (get_or s (i + 1) 0) (sym (get_or-drop i s 1 0) ∙ (front (drop i s) n size is).told ∙ size) is

-- the entry as the code makes it, a part from octet i to octet i + n
pub part_at : (s : List ℕ) (i n : ℕ) → take (i + n - i) (drop i s) ≡ take n (drop i s)
part_at s i n = let e : i + n - i ≡ n = omega arith in rw e

-- where a walk stands: the entry there ends within the list, has eight octets or more, and is a part of four or more
pub record Here (s : List ℕ) (i : ℕ) : Type 0 where
  pub front : Front (drop i s) (get_or s (i + 1) 0)
  pub ends : i + get_or s (i + 1) 0 ≤ length s
  pub least : 8 ≤ get_or s (i + 1) 0
  pub long : 4 ≤ length (take (i + get_or s (i + 1) 0 - i) (drop i s))

pub here : (s : List ℕ) (i : ℕ) → Sound (drop i s) → i < length s → Here s i
here s i sound h =
    let n = get_or s (i + 1) 0 in
    let f = entry_at s i sound h in
    let least = front_least (drop i s) n f in
    record {
      front = f;
      ends = omega (arith, f.fits, length-drop i s);
      least = least;
      long = rw (part_at s i n, length-take-le n (drop i s) f.fits) (omega (arith, least));
    }

-- the list behind it
pub sound_behind : (s : List ℕ) (i n : ℕ) → Sound (drop i s) → Front (drop i s) n → Sound (drop (i + n) s)
sound_behind s i n sound f = rw (← drop-drop n i s) (rest_sound (drop i s) sound n f)

pub entries_behind : (s : List ℕ) (i n : ℕ) → Sound (drop i s) → Front (drop i s) n → entries_in (drop i s) ≡ take n (drop i s) ∷ entries_in (drop (i + n) s)
entries_behind s i n sound f = rw (← drop-drop n i s) (first_rest (drop i s) sound n f)

pub entries_end : (s : List ℕ) (i : ℕ) → length s ≤ i → entries_in (drop i s) ≡ []
entries_end s i h = ap entries_in (drop_of_length-le s {i = i} h)

-- ---- the hops h searched from position p on

-- the list's test, where it is known that the hop is on the path
timing_hop : (hops set : List (List ℕ)) (p d k : ℕ) → p + d ≡ k → k < length hops → timing_at hops set p d ≡ occurs (get_or hops k []) set
timing_hop hops set p d k e h = rw (e, lt-ltb k (length hops) h)

module _ (h : List ℕ) (set : List (List ℕ)) (p : ℕ) where
  -- the walk stands at octet i, behind k hops, none of which is behind the position and in the list
  pub record Walked (i k : ℕ) : Type 0 where
    pub sound : Sound (drop i h)
    pub left : entries_in (drop i h) ≡ drop k (entries_in h)
    pub none_yet : NonePasses (timing_at (entries_in h) set p) 1 (k - p)

  module _ (i k n : ℕ) (w : Walked i k) (f : Front (drop i h) n) where
    split : drop k (entries_in h) ≡ take n (drop i h) ∷ entries_in (drop (i + n) h)
    split = sym w.left ∙ entries_behind h i n w.sound f

    pub on_path : k < length (entries_in h)
    on_path = omega (arith, length-drop k (entries_in h), ap (length {A = List ℕ}) split)

    next_split : get_or (entries_in h) k [] ∷ drop (suc k) (entries_in h) ≡ take n (drop i h) ∷ entries_in (drop (i + n) h)
    next_split = sym (drop-cons (entries_in h) k [] on_path) ∙ split

    hop_here : get_or (entries_in h) k [] ≡ take n (drop i h)
    hop_here = let e = next_split in cc

    left_behind : entries_in (drop (i + n) h) ≡ drop (suc k) (entries_in h)
    left_behind = let e = next_split in cc

    timing_here : (d : ℕ) → p + d ≡ k → timing_at (entries_in h) set p d ≡ occurs (take n (drop i h)) set
    timing_here d e = timing_hop (entries_in h) set p d k e on_path ∙ ap (λ (x : List ℕ). occurs x set) hop_here

    pub walked_next : (p < k → occurs (take n (drop i h)) set ≡ false) → Walked (i + n) (k + 1)
    walked_next other =
        record {
          sound = sound_behind h i n w.sound f;
          left = left_behind ∙ ap (λ (j : ℕ). drop j (entries_in h)) (sym (add-one k));
          none_yet = λ e l m t. w.none_yet e l (nearer e m (λ z. true≢false (sym t ∙ timing_here e z ∙ other (omega arith)))) t;
        }
      where
        nearer : (e : ℕ) → e < k + 1 - p → (p + e ≡ k → ⊥) → e < k - p
        nearer e m h = omega arith

    pub walked_found : p < k → occurs (take n (drop i h)) set ≡ true → next_timing (entries_in h) set p ≡ some (k - p)
    walked_found l t =
        least_is (timing_at (entries_in h) set p) (length (entries_in h)) 1 (k - p)
        (record { from = omega arith; passing = timing_here (k - p) (omega arith) ∙ t; none_less = w.none_yet })
        (omega (arith, on_path))

  pub walked_all : (i k : ℕ) → Walked i k → length h ≤ i → next_timing (entries_in h) set p ≡ none
  walked_all i k w l = least-none (timing_at (entries_in h) set p) (length (entries_in h)) 1 (λ e m n t. w.none_yet e m (within e t) t)
    where
      past : length (entries_in h) ≤ k
      past = omega (arith, length-drop k (entries_in h), ap (length {A = List ℕ}) (sym (entries_end h i l) ∙ w.left))

      within : (e : ℕ) → timing_at (entries_in h) set p e ≡ true → e < k - p
      within e t =
          let both = (and-eq-true_iff (ltb (p + e) (length (entries_in h))) (occurs (get_or (entries_in h) (p + e) []) set)).0 t in
          omega (arith, past, ltb-true (p + e) (length (entries_in h)) both.0)

-- what the search found answers it, where the position is on the path
pub answered : (hops set : List (List ℕ)) (p : ℕ) (o : Option ℕ) → p < length hops → next_timing hops set p ≡ o → found o ≡ searched hops set p
answered hops set p o l e = sym (rw (lt-leb (length hops) p l) (ap found e))

-- the whole answer, of two lists that are not refused
pub both_sound : (h s : List ℕ) (p : ℕ) → Sound h → Sound s → searched (entries_in h) (entries_in s) p ≡ ttl_of h s p
both_sound h s p e f = λ i. and_then (e i) (λ hops. and_then (f i) (λ set. searched hops set p))
