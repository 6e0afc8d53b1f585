-- What the least distance says of the hops: `Nearest`, `NoneLater`, `TtlFits` and `SetOrderFree`.
-- Assumes nothing.
use Prim.Native.Nat.{ℕ, zero, suc, ◌+◌, ◌<◌, ◌≤◌}
use mathlib.Core.Path.{◌≡◌, refl, sym, ap, ◌∙◌}
use mathlib.Core.Bool.{Bool, true, false, cond, ◌&&◌, ◌||◌, true≢false, and-eq-true_iff}
use mathlib.Core.List.{List, [], ◌∷◌, Permᴰ}
use mathlib.Core.Option.{Option, none, some}
use native.Mathlib.Omega.{arith}
use borrow.Author.Tests.{eq-eqb, eqb-true, lt-ltb, ltb-true, leb-false}
use lib.Dec.{eqb, ltb, leb}
use lib.ListN.{length, get_or}
use Rattle.octets.specs.Octets.{same}
use Rattle.octets.proofs.Comparing.{same_equal, same_itself}
use Rattle.refusal.specs.Answer.{Answer, value, refused, refuse, and_then}
use Rattle.refusal.proofs.Answers.{not_both}
use Rattle.rtm_set.specs.Entries.{entries_of, entries_by, entries_in}
use Rattle.rtm_set.proofs.Sound.{short, entries_few, refused_number}
use Rattle.label_stack.specs.Ttl.{type_of, address_of, same_address, occurs, timing_at, least, next_timing, found, searched, ttl_of}
use Rattle.label_stack.specs.Promises.{InSet, TimingAt, Searchable, Nearest, NoneLater, TtlFits, SetOrderFree}
use Rattle.label_stack.proofs.Least.{NonePasses, Least, least_is, least-none, is_least, is_none}
use Rattle.label_stack.proofs.Walk.{both_sound, answered}

-- ---- an entry of the RTM_SET list with the hop's type and address

in_set : (hop : List ℕ) (set : List (List ℕ)) → occurs hop set ≡ true → InSet hop set
in_set hop [] q = absurd (true≢false (sym q))
in_set hop (e ∷ es) q = go (same_address hop e) refl (in_set hop es) q
  where
    go : (b : Bool) → same_address hop e ≡ b → (occurs hop es ≡ true → InSet hop es) → b || occurs hop es ≡ true → InSet hop (e ∷ es)
    go true t r q =
        let both = (and-eq-true_iff (eqb (type_of hop) (type_of e)) (same (address_of hop) (address_of e))).0 t in
        record {
          place = 0;
          below = omega arith;
          type = eqb-true (type_of hop) (type_of e) both.0;
          address = same_equal (address_of hop) (address_of e) both.1;
        }
    go false t r q =
        let s = r q in
        record { place = suc s.place; below = omega (arith, s.below); type = s.type; address = s.address }

same_there : (hop e : List ℕ) → type_of hop ≡ type_of e → address_of hop ≡ address_of e → same_address hop e ≡ true
same_there hop e t a =
    rw (eq-eqb (type_of hop) (type_of e) t) (ap (λ (x : List ℕ). same x (address_of e)) a ∙ same_itself (address_of e))

occurs_at : (hop : List ℕ) (set : List (List ℕ)) (k : ℕ) → k < length set → type_of hop ≡ type_of (get_or set k []) → address_of hop ≡ address_of (get_or set k []) → occurs hop set ≡ true
occurs_at hop [] k l t a = absurd (omega arith)
occurs_at hop (e ∷ es) zero l t a = ap (λ (b : Bool). b || occurs hop es) (same_there hop e t a)
occurs_at hop (e ∷ es) (suc k) l t a = go (same_address hop e) (occurs_at hop es k (omega arith) t a)
  where
    go : (b : Bool) → occurs hop es ≡ true → b || occurs hop es ≡ true
    go true r = refl
    go false r = r

-- ---- a timing node at a distance

module _ (hops set : List (List ℕ)) (p d : ℕ) where
  is_timing : 0 < d → timing_at hops set p d ≡ true → TimingAt hops set p d
  is_timing l t =
      let both = (and-eq-true_iff (ltb (p + d) (length hops)) (occurs (get_or hops (p + d) []) set)).0 t in
      record { later = l; on_path = ltb-true (p + d) (length hops) both.0; in_set = in_set (get_or hops (p + d) []) set both.1 }

  timing_is : TimingAt hops set p d → timing_at hops set p d ≡ true
  timing_is t =
      rw (lt-ltb (p + d) (length hops) t.on_path)
      (occurs_at (get_or hops (p + d) []) set t.in_set.place t.in_set.below t.in_set.type t.in_set.address)

  in_reach : TimingAt hops set p d → d < 1 + length hops
  in_reach t = omega (arith, t.on_path)

-- ---- the answer and what was found: no other refusal is 24

not_found : (n : ℕ) (o : Option ℕ) → n < 24 → refused n ≡ found o → ⊥
not_found n (some d) l q = not_both q
not_found n none l q = let z : n ≡ 24 = cc in omega arith

same_found : (x y : Option ℕ) → found x ≡ found y → x ≡ y
same_found (some d) (some e) q = let z : d ≡ e = cc in ap some z
same_found (some d) none q = absurd (not_both (sym q))
same_found none (some e) q = absurd (not_both q)
same_found none none q = refl

module _ (h s : List ℕ) (p : ℕ) where
  abbrev hops : List (List ℕ)
  hops = entries_in h

  abbrev set : List (List ℕ)
  set = entries_in s

  reached : (o : Option ℕ) → ttl_of h s p ≡ found o → Searchable h s p × (next_timing hops set p ≡ o)
  reached o e =
      let r = go (entries_of h) (entries_of s) (refused_number h) (refused_number s) e in
      (record { hops = r.0; set = r.1; on_path = r.2 }, r.3)
    where
      here : (hs es : List (List ℕ)) (past : Bool) → leb (length hs) p ≡ past → refuse 21 past (found (next_timing hs es p)) ≡ found o
          → (p < length hs) × (next_timing hs es p ≡ o)
      here hs es true t q = absurd (not_found 21 o (omega arith) q)
      here hs es false t q = (leb-false (length hs) p t, same_found (next_timing hs es p) o q)

      go : (a b : Answer (List (List ℕ))) → ((n : ℕ) → a ≡ refused n → n ≤ 20) → ((n : ℕ) → b ≡ refused n → n ≤ 20)
          → and_then a (λ hs. and_then b (λ es. searched hs es p)) ≡ found o
          → (value (entries_by a) ≡ a) × (value (entries_by b) ≡ b) × (p < length (entries_by a)) × (next_timing (entries_by a) (entries_by b) p ≡ o)
      go (refused n) b f g q = absurd (not_found n o (omega (arith, f n refl)) q)
      go (value hs) (refused n) f g q = absurd (not_found n o (omega (arith, g n refl)) q)
      go (value hs) (value es) f g q =
          let r = here hs es (leb (length hs) p) refl q in
          (refl, refl, r.0, r.1)

  answer_found : (o : Option ℕ) → Searchable h s p → next_timing hops set p ≡ o → ttl_of h s p ≡ found o
  answer_found o w e = sym (answered hops set p o w.on_path e ∙ both_sound h s p w.hops w.set)

  -- no later hop nearer than d is a timing node: of the hops, and of the test
  nearer_none : (d : ℕ) → ((e : ℕ) → e < d → TimingAt hops set p e → ⊥) → NonePasses (timing_at hops set p) 1 d
  nearer_none d n e l m f = n e m (is_timing hops set p e l f)

  none_nearer : (d : ℕ) → NonePasses (timing_at hops set p) 1 d → (e : ℕ) → e < d → TimingAt hops set p e → ⊥
  none_nearer d n e m t = n e t.later m (timing_is hops set p e t)

  tells_nearest : (d : ℕ) → ttl_of h s p ≡ value d → Searchable h s p × TimingAt hops set p d × ((e : ℕ) → e < d → TimingAt hops set p e → ⊥)
  tells_nearest d q =
      let r = reached (some d) q in
      let l = is_least (timing_at hops set p) (length hops) 1 d r.1 in
      (r.0, is_timing hops set p d l.from l.passing, none_nearer d l.none_less)

  nearest_told : (d : ℕ) → Searchable h s p → TimingAt hops set p d → ((e : ℕ) → e < d → TimingAt hops set p e → ⊥) → ttl_of h s p ≡ value d
  nearest_told d w t n =
      let l : Least (timing_at hops set p) 1 d = record { from = t.later; passing = timing_is hops set p d t; none_less = nearer_none d n } in
      answer_found (some d) w (least_is (timing_at hops set p) (length hops) 1 d l (in_reach hops set p d t))

  tells_none : ttl_of h s p ≡ refused 24 → Searchable h s p × ((d : ℕ) → TimingAt hops set p d → ⊥)
  tells_none q =
      let r = reached none q in
      let n = is_none (timing_at hops set p) (length hops) 1 r.1 in
      (r.0, λ d t. none_nearer (1 + length hops) n d (in_reach hops set p d t) t)

  none_told : Searchable h s p → ((d : ℕ) → TimingAt hops set p d → ⊥) → ttl_of h s p ≡ refused 24
  none_told w n = answer_found none w (least-none (timing_at hops set p) (length hops) 1 (nearer_none (1 + length hops) (λ e m t. n e t)))

pub nearest : Nearest
nearest h s p d = (tells_nearest h s p d, nearest_told h s p d)

pub none_later : NoneLater
none_later h s p = (tells_none h s p, none_told h s p)

-- ---- the distance fits the TTL's octet

pub ttl_fits : TtlFits
ttl_fits h s p d q =
    let r = (nearest h s p d).0 q in
    let sound = r.0.hops in
    omega (arith, r.1.on_path, entries_few h sound, short h sound)

-- ---- the order of the RTM_SET list

or_swap : (a b c : Bool) → a || (b || c) ≡ b || (a || c)
or_swap true true c = refl
or_swap true false c = refl
or_swap false true c = refl
or_swap false false c = refl

occurs_rearranged : (hop : List ℕ) {es fs : List (List ℕ)} → Permᴰ es fs → occurs hop es ≡ occurs hop fs
occurs_rearranged hop Permᴰ.nil = refl
occurs_rearranged hop (Permᴰ.cons e d) = λ i. same_address hop (e i) || occurs_rearranged hop d i
occurs_rearranged hop (Permᴰ.swap {a} {b} {a'} {b'} {l} e f) =
    or_swap (same_address hop a) (same_address hop b) (occurs hop l) ∙ (λ i. same_address hop (f i) || (same_address hop (e i) || occurs hop l))
occurs_rearranged hop (Permᴰ.trans d e) = occurs_rearranged hop d ∙ occurs_rearranged hop e

least_alike : (t u : ℕ → Bool) → ((d : ℕ) → t d ≡ u d) → (n k : ℕ) → least t k n ≡ least u k n
least_alike t u e zero k = refl
least_alike t u e (suc n) k = λ i. cond (e k i) (some k) (least_alike t u e n (suc k) i)

pub set_order_free : SetOrderFree
set_order_free h s r p a b d = go (entries_of h)
  where
    alike : (hops : List (List ℕ)) → searched hops (entries_in s) p ≡ searched hops (entries_in r) p
    alike hops =
        ap (λ (o : Option ℕ). refuse 21 (leb (length hops) p) (found o))
        (least_alike (timing_at hops (entries_in s) p) (timing_at hops (entries_in r) p) (λ e i. ltb (p + e) (length hops) && occurs_rearranged (get_or hops (p + e) []) d i) (length hops) 1)

    searched_in : List (List ℕ) → Answer (List (List ℕ)) → Answer ℕ
    searched_in hops y = and_then y (λ z. searched hops z p)

    go : (x : Answer (List (List ℕ))) → and_then x (λ hops. searched_in hops (entries_of s)) ≡ and_then x (λ hops. searched_in hops (entries_of r))
    go (refused n) = refl
    go (value hops) = ap (searched_in hops) (sym a) ∙ alike hops ∙ ap (searched_in hops) b
