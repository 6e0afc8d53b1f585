-- The entry at a place as a part of the list: the part holds the entry, and it is the front or a part of the rest.
-- Assumes nothing.
use Prim.Native.Nat.{ℕ, zero, suc, ◌+◌, ◌-◌, ◌<◌, ◌≤◌}
use mathlib.Core.Path.{◌≡◌, refl, sym, ap, subst, ◌∙◌}
use mathlib.Core.Bool.{Bool, true, false, cond, not}
use mathlib.Core.List.{List, [], ◌∷◌}
use native.Mathlib.Omega.{arith}
use borrow.Author.Tests.{leb-false}
use lib.Dec.{leb-suc-zero, leb-suc-suc, eqb, leb, ltb}
use lib.ListN.{length, get_or, take, drop, length-drop}
use lib.Seq.{length-take-le, drop-drop}
use Rattle.refusal.specs.Answer.{Answer, value, refused, refuse, and_then}
use Rattle.refusal.proofs.Answers.{not_both, same_value}
use Rattle.rtm_set.specs.declared.part.Part.{Part}
use Rattle.rtm_set.specs.Entries.{front_size, is_entry, entries_within, entries_of, count_of, entry_of, part_by, octets_in, part_in, part_of, behind, PartHolds}
use Rattle.rtm_set.proofs.Rest.{Front, front, before, entries_rest}
use Rattle.rtm_set.proofs.Counts.{counted}
use Rattle.rtm_set.proofs.Places.{at, has_short, not_refused}

-- the list holds e from the octet i on
record Lies (s e : List ℕ) (i : ℕ) : Type 0 where
  same : take (length e) (drop i s) ≡ e
  fits : i + length e ≤ length s

-- an entry lies in the list if it is the n octets at the front, or lies in the rest
lies_in : (s : List ℕ) (n : ℕ) (es : List (List ℕ)) (k : ℕ) → n ≤ length s
    → ((j : ℕ) → j < length es → Lies (drop n s) (get_or es j []) (octets_in (take j es)))
    → k < length (take n s ∷ es)
    → Lies s (get_or (take n s ∷ es) k []) (octets_in (take k (take n s ∷ es)))
lies_in s n es zero f later h =
    let z = length-take-le n s f in
    record { same = rw z; fits = omega arith }
lies_in s n es (suc j) f later h =
    let z = length-take-le n s f in
    let l = later j (omega arith) in
    let i = octets_in (take j es) in
    record { same = rw (z, ← drop-drop i n s) l.same; fits = omega (arith, l.fits, length-drop n s) }

-- an entry of a list lies behind the entries before it
lies : (b : ℕ) (s : List ℕ) (es : List (List ℕ)) (k : ℕ) → entries_within b s ≡ value es → k < length es → Lies s (get_or es k []) (octets_in (take k es))
lies zero s es k e h = let z : [] ≡ es = same_value e in absurd (omega (arith, ap length z))
lies (suc b) s es k e h =
    go (eqb (length s) 0) (is_entry s) refl (entries_within b (drop (front_size s) s)) (λ xs j. lies b (drop (front_size s) s) xs j) e
  where
    go : (none is : Bool) → is_entry s ≡ is → (a : Answer (List (List ℕ)))
        → ((xs : List (List ℕ)) (j : ℕ) → a ≡ value xs → j < length xs → Lies (drop (front_size s) s) (get_or xs j []) (octets_in (take j xs)))
        → cond none (value []) (refuse 20 (not is) (before (take (front_size s) s) a)) ≡ value es
        → Lies s (get_or es k []) (octets_in (take k es))
    go true is i a later q = let z : [] ≡ es = same_value q in absurd (omega (arith, ap length z))
    go false false i a later q = absurd (not_both q)
    go false true i (refused m) later q = absurd (not_both q)
    go false true i (value xs) later q =
        let n = front_size s in
        let z : take n s ∷ xs ≡ es = same_value q in
        subst (λ (ys : List (List ℕ)). k < length ys → Lies s (get_or ys k []) (octets_in (take k ys))) z
        (lies_in s n xs k (front s n (rw i) i).fits (λ j. later xs j refl)) h

-- the part at a place of an answer's entries
abbrev part_at : ℕ → Answer (List (List ℕ)) → Answer Part
part_at k a = and_then a (λ es. refuse 21 (leb (length es) k) (value (part_in es k)))

-- what a part tells of the entry e of a list
pub record Tells (s e : List ℕ) (p : Part) : Type 0 where
  pub same : take p.length (drop p.offset s) ≡ e
  pub fits : p.offset + p.length ≤ length s

pub tells : (s : List ℕ) (k : ℕ) (p : Part) → part_of s k ≡ value p → Tells s (part_by (entry_of s k)) p
tells s k p e = go (ltb 1024 (length s)) (entries_within (length s) s) refl e
  where
    here : (es : List (List ℕ)) → entries_within (length s) s ≡ value es → (past : Bool) → leb (length es) k ≡ past
        → refuse 21 past (value (part_in es k)) ≡ value p
        → Tells s (part_by (refuse 21 past (value (get_or es k [])))) p
    here es w true t q = absurd (not_both q)
    here es w false t q =
        let l = lies (length s) s es k w (leb-false (length es) k t) in
        subst (λ (r : Part). Tells s (get_or es k []) r) (same_value q) (record { same = l.same; fits = l.fits })

    go : (long : Bool) (a : Answer (List (List ℕ))) → entries_within (length s) s ≡ a
        → part_at k (refuse 19 long a) ≡ value p
        → Tells s (part_by (at k (refuse 19 long a))) p
    go true a w q = absurd (not_both q)
    go false (refused m) w q = absurd (not_both q)
    go false (value es) w q = here es w (leb (length es) k) refl q

pub part_holds : PartHolds
part_holds s k p e = (tells s k p e).same

-- of a list of at most 1,024 octets with an entry of n octets at the front
module _ (s : List ℕ) (n : ℕ) (f : Front s n) (fits : length s ≤ 1024) where
  pub part_first : (m : ℕ) → count_of s ≡ value m → part_of s 0 ≡ value (record { offset = 0; length = n })
  part_first m c = go (entries_of (drop n s)) (entries_rest s n f fits)
    where
      go : (a : Answer (List (List ℕ))) → entries_of s ≡ before (take n s) a → part_of s 0 ≡ value (record { offset = 0; length = n })
      go (value es) e = ap (part_at 0) e ∙ rw (leb-suc-zero (length es), length-take-le n s f.fits)
      go (refused r) e = absurd (not_both (sym (ap counted e) ∙ c))

  pub part_rest : (k : ℕ) → (k ≡ 0 → ⊥) → part_of s k ≡ behind n (part_of (drop n s) (k - 1))
  part_rest k z = ap (part_at k) (entries_rest s n f fits) ∙ go k z (entries_of (drop n s))
    where
      past : (j : ℕ) (es : List (List ℕ)) (t : Bool)
          → refuse 21 t (value (part_in (take n s ∷ es) (suc j)))
          ≡ behind n (refuse 21 t (value (part_in es j)))
      past j es true = refl
      past j es false = rw (length-take-le n s f.fits)

      go : (j : ℕ) → (j ≡ 0 → ⊥) → (a : Answer (List (List ℕ))) → part_at j (before (take n s) a) ≡ behind n (part_at (j - 1) a)
      go zero h a = absurd (h refl)
      go (suc j) h (value es) = let e : suc j - 1 ≡ j = omega arith in rw (e, leb-suc-suc (length es) j) (past j es (leb (length es) j))
      go (suc j) h (refused m) = refl

-- a list that has an entry at the place
module _ (s : List ℕ) (k : ℕ) (has : value (part_by (entry_of s k)) ≡ entry_of s k) (n : ℕ) (f : Front s n) where
  pub part_here : k ≡ 0 → part_of s k ≡ value (record { offset = 0; length = n })
  part_here z = go (entries_of (drop n s)) (entries_rest s n f (has_short s k has))
    where
      go : (a : Answer (List (List ℕ))) → entries_of s ≡ before (take n s) a → part_of s k ≡ value (record { offset = 0; length = n })
      go (value es) e = ap (part_at k) e ∙ rw (z, leb-suc-zero (length es), length-take-le n s f.fits)
      go (refused m) e = absurd (not_refused s k has m (ap (at k) e))

  pub part_later : (k ≡ 0 → ⊥) → part_of s k ≡ behind n (part_of (drop n s) (k - 1))
  part_later = part_rest s n f (has_short s k has) k

-- the entry and its part are refused alike, whatever is made of the entries
refused_alike : {A B : Type 0} (x : List (List ℕ) → A) (y : List (List ℕ) → B) (k n : ℕ) (a : Answer (List (List ℕ)))
    → and_then a (λ es. refuse 21 (leb (length es) k) (value (x es))) ≡ refused n
    → and_then a (λ es. refuse 21 (leb (length es) k) (value (y es))) ≡ refused n
refused_alike x y k n (value es) e = go (leb (length es) k) e
  where
    go : (past : Bool) → refuse 21 past (value (x es)) ≡ refused n → refuse 21 past (value (y es)) ≡ refused n
    go true q = let z : 21 ≡ n = cc in ap refused z
    go false q = absurd (not_both (sym q))
refused_alike x y k n (refused m) e = let z : m ≡ n = cc in ap refused z

pub no_part : (s : List ℕ) (k n : ℕ) → entry_of s k ≡ refused n → part_of s k ≡ refused n
no_part s k n = refused_alike (λ es. get_or es k []) (λ es. part_in es k) k n (entries_of s)

-- where a part is told of, there is an entry
pub entry_there : (s : List ℕ) (k : ℕ) (p : Part) → part_of s k ≡ value p → value (part_by (entry_of s k)) ≡ entry_of s k
entry_there s k p e = go (entry_of s k) refl
  where
    go : (a : Answer (List ℕ)) → entry_of s k ≡ a → value (part_by a) ≡ a
    go (value x) q = refl
    go (refused n) q = absurd (not_both (sym (no_part s k n q) ∙ e))

-- the octets before a list add up; its front begins behind them; none before it change nothing
pub behind-behind : (m n : ℕ) (a : Answer Part) → behind m (behind n a) ≡ behind (m + n) a
behind-behind m n (value p) = let e : m + (n + p.offset) ≡ m + n + p.offset = omega arith in rw e
behind-behind m n (refused r) = refl

pub behind_front : (m n : ℕ) → behind m (value (record { offset = 0; length = n })) ≡ value (record { offset = m; length = n })
behind_front m n = let e : m + 0 ≡ m = omega arith in rw e
