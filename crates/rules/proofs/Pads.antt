-- Over a whole path each of the two pads is its start raised by the residences that the nodes' answers put on it, whatever is refused and
-- however big the pads grow. The sums over a path follow from it.
-- Assumes nothing.
use Prim.Native.Nat.{ℕ, ◌+◌}
use mathlib.Core.Path.{◌≡◌, refl, sym, ap, ◌∙◌, subst}
use mathlib.Core.Bool.{Bool, true, false, not, cond, ◌||◌, true≢false}
use mathlib.Core.List.{List, [], ◌∷◌, ◌++◌, Permᴰ}
use mathlib.Core.Option.{Option, none, some}
use native.Mathlib.Omega.{arith}
use borrow.Author.Tests.{not-true}
use lib.IntN.{ℤ, pos}
use lib.ListN.{take}
use Rattle.refusal.specs.Answer.{Answer, value, refused}
use Rattle.records.specs.declared.RecordKind.{RecordKind}
use Rattle.records.specs.declared.RecordKind.TheVariants.{Sync}
use Rattle.records.specs.declared.Identity.{Identity}
use Rattle.scratch_pad.specs.Sum.{raised}
use Rattle.scratch_pad.proofs.Held.{raised_more}
use Rattle.rules.specs.Change.{pad_of}
use Rattle.rules.specs.Rules.{Kind, sync, first_of, second_of, kind_of, Word, updated, passed, created, waiting, added, Reply}
use Rattle.rules.specs.Path.{Stop, ReplyAt, Visit, Apart, Every, First, of_sync, FirstWay, SecondWay, Uncrossed, FollowUps, existing, born, never, first_answer, residence_at}
use Rattle.rules.specs.Credited.{says, some_created}
use Rattle.rules.proofs.Calls.{same_pad, first_of_lem, next, next_first, set_next, FirstSays}
use Rattle.rules.proofs.Crossing.{Grown, grown_more, updated_at, created_at, added_at, answered_first, first_at, sync_creates, creator}
use Rattle.rules.proofs.Collecting.{Ready, second_at}
use Rattle.rules.proofs.Answered.{Answered, uncreated, crossed, uncrossed}

-- ---- sums over the nodes, and what holds of each

abbrev pub total : (Stop → ℕ) → List Stop → ℕ
total g [] = 0
total g (n ∷ ns) = g n + total g ns

total_order : (g : Stop → ℕ) {fs ns : List Stop} → Permᴰ fs ns → total g fs ≡ total g ns
total_order g Permᴰ.nil = refl
total_order g (Permᴰ.cons e p) = rw (e, total_order g p)
total_order g (Permᴰ.swap e₁ e₂) = rw (e₁, e₂) (omega arith)
total_order g (Permᴰ.trans p q) = total_order g p ∙ total_order g q

total-append : (g : Stop → ℕ) (ns ms : List Stop) → total g (ns ++ ms) ≡ total g ns + total g ms
total-append g [] ms = omega arith
total-append g (n ∷ ns) ms = omega (arith, total-append g ns ms)

total_same : (f g : Stop → ℕ) (ns : List Stop) → Every (λ n. f n ≡ g n) ns → total f ns ≡ total g ns
total_same f g [] h = refl
total_same f g (n ∷ ns) h = omega (arith, h.0, total_same f g ns h.1)

module _ (P : Stop → Type 0) where
  every_order : {fs ns : List Stop} → Permᴰ fs ns → Every P ns → Every P fs
  every_order Permᴰ.nil h = tt
  every_order (Permᴰ.cons e p) h = (subst P (sym e) h.0, every_order p h.1)
  every_order (Permᴰ.swap e₁ e₂) h = (subst P (sym e₁) h.1.0, (subst P (sym e₂) h.0, h.1.1))
  every_order (Permᴰ.trans p q) h = every_order p (every_order q h)

  every_back : {fs ns : List Stop} → Permᴰ fs ns → Every P fs → Every P ns
  every_back Permᴰ.nil h = tt
  every_back (Permᴰ.cons e p) h = (subst P e h.0, every_back p h.1)
  every_back (Permᴰ.swap e₁ e₂) h = (subst P e₂ h.1.0, (subst P e₁ h.0, h.1.1))
  every_back (Permᴰ.trans p q) h = every_back q (every_back p h)

  every_right : (ns ms : List Stop) → Every P (ns ++ ms) → Every P ms
  every_right [] ms h = h
  every_right (n ∷ ns) ms h = every_right ns ms h.1

  every_both : (ns ms : List Stop) → Every P ns → Every P ms → Every P (ns ++ ms)
  every_both [] ms h k = k
  every_both (n ∷ ns) ms h k = (h.0, every_both ns ms h.1 k)

pub every_map : (P Q : Stop → Type 0) → ((n : Stop) → P n → Q n) → (ns : List Stop) → Every P ns → Every Q ns
every_map P Q f [] h = tt
every_map P Q f (n ∷ ns) h = (f n h.0, every_map P Q f ns h.1)

-- ---- the core

-- what a node puts on the second message's pad
abbrev pub on_second : Stop → ℕ
on_second n = created_at n + added_at n

-- the two pads at the start and at the end of a path, and what its nodes answered
pub record Pads (q : Identity) (ns : List Stop) (first first' second second' : ℤ) : Type 0 where
  pub first_pad : first' ≡ raised first (total updated_at ns)
  pub second_pad : second' ≡ raised second (total on_second ns)
  pub each : Every (Answered q) ns

-- the first message, over its nodes in the path's order
module _ {q : Identity} where
  abbrev evolved : {k : Kind} → First q k → List Stop → Kind
  evolved {k = k} f [] = k
  evolved {k = k} f (n ∷ ns) = evolved {k = next f (first_answer n)} (next_first f (first_answer n)) ns

  pub first_way : {k : Kind} {s last : List ℕ} {ns : List Stop} (f : First q k) → kind_of s ≡ k → FirstWay s ns last → Grown (evolved f ns) s last (total updated_at ns)
  first_way {k = k} {s = s} f e FirstWay.done = record { kind = e; pad = same_pad s }
  first_way {k = k} {last = last} f e (FirstWay.cross {n = n} {ns = ns} {s = s} {r = r} v w) =
      let g = (first_at q n s r v f e).grown in
      let o = first_answer n in
      grown_more (next f o) (evolved (next_first f o) ns) s r.message last (updated_at n) (total updated_at ns) g (first_way {k = next f o} (next_first f o) g.kind w)

-- a Sync's S at the end: set where it was, or a node created
pub sync_end : (q : Identity) (b : Bool) (ns : List Stop) → evolved {q = q} (of_sync b) ns ≡ sync q (b || some_created ns)
sync_end q true [] = refl
sync_end q false [] = refl
sync_end q true (n ∷ ns) = sync_end q true ns
sync_end q false (n ∷ ns) = sync_end q (says created (first_answer n)) ns

module _ (a : RecordKind) (q : Identity) where
  -- where S is set, or a Delay_Req comes, each node is ready for the second message
  ready_way : {s last : List ℕ} {ns : List Stop} → kind_of s ≡ first_of a q → Every (Apart q) ns → FirstWay s ns last → Every (Ready a q) ns
  ready_way e h FirstWay.done = tt
  ready_way e h (FirstWay.cross {n = n} {s = s} {r = r} v w) =
      let g = (first_at q n s r v (first_of_lem a q) e).grown in
      (record { apart = h.0; octets = s; reply = r; visit = v; kind = e }, ready_way (g.kind ∙ set_next a q (first_answer n)) h.1 w)

  -- the second message, over its nodes in its own order
  second_way :
      {f last : List ℕ} {fs : List Stop} → kind_of f ≡ second_of a q → Every (Ready a q) fs → SecondWay f fs last
      → Grown (second_of a q) f last (total added_at fs) × Every (Answered q) fs
  second_way {f} e h SecondWay.done = (record { kind = e; pad = same_pad f }, tt)
  second_way {last = last} e h (SecondWay.cross {n = n} {ns = ns} {f = f} {r = r} k place v w) =
      let g = (second_at a q n h.0 k place f r v e).grown in
      let x = second_way g.kind h.1 w in (
        grown_more (second_of a q) (second_of a q) f r.message last (added_at n) (total added_at ns) g x.0,
        (crossed a q n h.0 k place f r v e, x.1),
      )

  added_only : (n : Stop) → Ready a q n → added_at n ≡ on_second n
  added_only n y = omega (arith, ap (λ (b : Bool). cond b (residence_at n) 0) (uncreated a q n y))

  -- two messages that cross the same nodes
  pub pair_pads :
      (s last f end : List ℕ) (ns fs : List Stop) → kind_of s ≡ first_of a q → kind_of f ≡ second_of a q → Every (Apart q) ns
      → FirstWay s ns last → Permᴰ fs ns → SecondWay f fs end → Pads q ns (pad_of s) (pad_of last) (pad_of f) (pad_of end)
  pair_pads s last f end ns fs e g h w p v =
      let y = ready_way e h w in
      let x = second_way g (every_order (Ready a q) p y) v in
      let t = total_same added_at on_second ns (every_map (Ready a q) (λ n. added_at n ≡ on_second n) added_only ns y) in
      record {
        first_pad = (first_way (first_of_lem a q) e w).pad;
        second_pad = x.0.pad ∙ ap (raised (pad_of f)) (total_order added_at p ∙ t);
        each = every_back (Answered q) p x.1;
      }

-- ---- a Sync and its Follow_Up

-- a way over two lists of nodes
pub split : (s last : List ℕ) (ns ms : List Stop) → FirstWay s (ns ++ ms) last → (m : List ℕ) × FirstWay s ns m × FirstWay m ms last
split s last [] ms w = (s, FirstWay.done, w)
split s last (n ∷ ns) ms (FirstWay.cross {r = r} v w) =
    let x : (m : List ℕ) × FirstWay r.message ns m × FirstWay m ms last = split r.message last ns ms w in
    (x.0, FirstWay.cross v x.1, x.2)

module _ (q : Identity) where
  -- as long as no node creates nothing goes on the second message's pad
  clear_way :
      {s last : List ℕ} {ns : List Stop} → kind_of s ≡ sync q false → some_created ns ≡ false → Every Uncrossed ns → FirstWay s ns last
      → Every (Answered q) ns × (total on_second ns ≡ 0)
  clear_way e c h FirstWay.done = (tt, refl)
  clear_way e c h (FirstWay.cross {n = n} {ns = ns} {s = s} {r = r} v w) = go (says created (first_answer n)) refl c (λ g d. clear_way g d h.1 w)
    where
      go : (b : Bool) → says created (first_answer n) ≡ b → b || some_created ns ≡ false
          → (kind_of r.message ≡ sync q false → some_created ns ≡ false → Every (Answered q) ns × (total on_second ns ≡ 0))
          → Every (Answered q) (n ∷ ns) × (on_second n + total on_second ns ≡ 0)
      go true p d on = absurd (true≢false d)
      go false p d on =
          let x = uncrossed q n s r v e h.0 in
          let y = on ((first_at q n s r v (of_sync false) e).grown.kind ∙ ap (sync q) p) d in
          ((x.0, y.0), omega (arith, ap (λ (b : Bool). cond b (residence_at n) 0) p, x.1, y.1))

  -- node n creates the Follow_Up
  module _
      (s last end : List ℕ) (before after fs : List Stop) (n : Stop) (r : Reply)
      (h : Every (Apart q) (before ++ n ∷ after))
      (us : Every Uncrossed before)
      (u : Uncrossed n)
      (a : r.answer ≡ value created)
      (p : Permᴰ fs after)
      (v : SecondWay (take 36 r.output) fs end) where
    abbrev Claim : Type 0
    Claim = (pad_of end ≡ raised (pos 0) (total on_second (before ++ n ∷ after))) × Every (Answered q) (before ++ n ∷ after)

    from_there :
        (m : List ℕ) → FirstWay s before m → kind_of s ≡ sync q false → kind_of m ≡ sync q (some_created before) → Visit n n.first_place m r
        → FirstWay r.message after last → Claim
    from_there m w₀ e g x w =
        let k = first_at q n m r x (of_sync (some_created before)) g in
        let c = creator (subst (λ (y : Answer Word). FirstSays n.mode (not (some_created before)) y) a k.says_it) in
        let clear : some_created before ≡ false = not-true (some_created before) c.1 in
        let m_clear : kind_of m ≡ sync q false = g ∙ ap (sync q) clear in
        let f = sync_creates q n m r x c.0 m_clear a in
        let here : says created (first_answer n) ≡ true = ap (says created) (answered_first q n m r x ∙ ap some a) in
        let set : kind_of r.message ≡ sync q true = k.grown.kind ∙ rw (clear, here) in
        let y = pair_pads Sync q r.message last (take 36 r.output) end after fs set f.0 (every_right (Apart q) before (n ∷ after) h).1 w p v in
        let z = clear_way e clear us w₀ in
        let i = uncrossed q n m r x m_clear u in
        let t : residence_at n + total on_second after ≡ total on_second (before ++ n ∷ after) =
        omega (arith, total-append on_second before (n ∷ after), z.1, i.1, ap (λ (b : Bool). cond b (residence_at n) 0) here) in (
          y.second_pad
              ∙ ap (λ (j : ℤ). raised j (total on_second after)) f.1
              ∙ raised_more (pos 0) (residence_at n) (total on_second after)
              ∙ ap (raised (pos 0)) t,
          every_both (Answered q) before (n ∷ after) z.0 (i.0, y.each),
        )

    born_pads : ReplyAt n n.first_place r → kind_of s ≡ sync q false → FirstWay s (before ++ n ∷ after) last → Claim
    born_pads at e w =
        let x = split s last before (n ∷ after) w in
        go x.0 x.1 ((first_way (of_sync false) e x.1).kind ∙ sync_end q false before) x.2
      where
        reply_same : {z : Reply} → ReplyAt n n.first_place z → z ≡ r
        reply_same i = cc

        go : (m : List ℕ) → FirstWay s before m → kind_of m ≡ sync q (some_created before) → FirstWay m (n ∷ after) last → Claim
        go m w₀ g (FirstWay.cross {r = z} y w₁) =
            let f : z ≡ r = reply_same y.outcome in
            from_there m w₀ e g (subst (λ (i : Reply). Visit n n.first_place m i) f y) (subst (λ (i : Reply). FirstWay i.message after last) f w₁)

  -- no node creates one
  abbrev pub Never : Stop → Type 0
  Never n = Uncrossed n × (first_answer n ≡ some (value created) → ⊥)

  created_or_not : (o : Option (Answer Word)) → (o ≡ some (value created) → ⊥) → says created o ≡ false
  created_or_not none h = refl
  created_or_not (some (refused n)) h = refl
  created_or_not (some (value updated)) h = refl
  created_or_not (some (value passed)) h = refl
  created_or_not (some (value created)) h = absurd (h refl)
  created_or_not (some (value waiting)) h = refl
  created_or_not (some (value added)) h = refl

  pub never_created : (ns : List Stop) → Every Never ns → some_created ns ≡ false
  never_created [] h = refl
  never_created (n ∷ ns) h = rw (created_or_not (first_answer n) h.0.1) (never_created ns h.1)

  second_pads :
      (b : Bool) (s last : List ℕ) (ns : List Stop) (x y : ℤ) → kind_of s ≡ sync q b → Every (Apart q) ns → FirstWay s ns last → FollowUps q b ns x y
      → (y ≡ raised x (total on_second ns)) × Every (Answered q) ns
  second_pads b s last ns x y e h w (existing {fs = fs} {f = f} {last = end} k p v) =
      let z = pair_pads Sync q s last f end ns fs e k h w p v in (z.second_pad, z.each)
  second_pads b s last ns x y e h w (born before n {after} {fs} {r} {last = end} us u at a p v) =
      born_pads s last end before after fs n r h us u a p v at e w
  second_pads b s last ns x y e h w (never all) =
      let z = clear_way e (never_created ns all) (every_map Never Uncrossed (λ n i. i.0) ns all) w in
      (ap (raised (pos 0)) (sym z.1), z.0)

  pub sync-Pads :
      (b : Bool) (s last : List ℕ) (ns : List Stop) (x y : ℤ) → kind_of s ≡ sync q b → Every (Apart q) ns → FirstWay s ns last → FollowUps q b ns x y
      → Pads q ns (pad_of s) (pad_of last) x y
  sync-Pads b s last ns x y e h w f =
      let z = second_pads b s last ns x y e h w f in
      record { first_pad = (first_way (of_sync b) e w).pad; second_pad = z.0; each = z.1 }
