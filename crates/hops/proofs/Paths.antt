-- Every plan is shown by a path: each hop is a node with an empty table, and what each call leaves goes to the next node.
-- Assumes nothing.
use Prim.Native.Nat.{ℕ, ◌≤◌}
use mathlib.Core.Path.{◌≡◌, refl, sym, ap, ◌∙◌}
use mathlib.Core.Bool.{Bool, true, false, ◌||◌, true≢false}
use mathlib.Core.List.Permᴰ
use mathlib.Core.List.{List, [], ◌∷◌, map}
use mathlib.Core.Option.{Option, none, some, none-ne-some}
use native.Mathlib.Omega.{arith}
use borrow.Author.Tests.{lt-leb, eqb-true}
use lib.Dec.{eqb}
use lib.IntN.{ℤ, pos}
use lib.ListN.{length, length-map, take}
use mir.Syntax.{w64}
use mir.Val.{SFits}
use Rattle.refusal.specs.Answer.{Answer, value, refused, refuse}
use Rattle.refusal.proofs.Answers.{same_value}
use Rattle.std.specs.Prelude.{Ok}
use Rattle.residence.specs.Residence.{limit, accepted_of}
use Rattle.records.specs.declared.Identity.{Identity}
use Rattle.records.specs.Node.{table_answer}
use Rattle.rules.specs.Change.{pad_of, with_pad}
use Rattle.rules.specs.declared.Handled.{Handled as Word}
use Rattle.rules.specs.declared.Handled.TheVariants.{Created as created}
use Rattle.rules.specs.Rules.{Kind, sync, follow_up, kind_of, kind_identity, Mode, one_step, two_step}
use Rattle.rules.specs.Rules.{rules}
use Rattle.rules.specs.Path.{Stop, Unrefused, SecondUnrefused, Apart, Every, FirstWay, SecondWay, Uncrossed, first_answer}
use Rattle.rules.specs.Path.{FollowUps, existing, born, never, units_of}
use Rattle.rules.proofs.Bearing.{sound_ptp}
use Rattle.rules.proofs.Changes.{with_pad_pad, with_pad_kind}
use Rattle.rules.specs.Credited.{says}
use Rattle.rules.proofs.Calls.{sync-created}
use Rattle.rules.proofs.Samples.{octets_of, not_created}
use Rattle.rules.proofs.PathExample.{mine}
use Rattle.hops.specs.declared.Hop.{Hop}
use Rattle.hops.specs.declared.Start.{Start}
use Rattle.hops.specs.declared.End.{End}
use Rattle.hops.specs.Plan.{is_mode, start_with, plan_of}
use Rattle.hops.specs.Promises.{Good, AllGood}
use Rattle.hops.specs.Shown.{mode_number, hop_at, Crossed, Bare, ShownBy, EveryPlanShown}
use Rattle.hops.proofs.Nodes.{no_records, call_on, node, first_reply, second_reply, node-Apart, node-Bare, not_refused, first_answer_lem, first_kind, second_unrefused, second_kind}
use Rattle.hops.proofs.Laws.{plan_value}
use Rattle.hops.proofs.Plans.{plan_shown}
use Rattle.hops.proofs.Raised.{fits_range}

-- ---- the path of a list of hops

-- the path and the Sync's way over it
record Route (q : Identity) (hs : List Hop) (start : List ℕ) : Type 0 where
  nodes : List Stop
  last : List ℕ
  apart : Every (Apart q) nodes
  unrefused : Every Unrefused nodes
  sync_way : FirstWay start nodes last
  hops : map hop_at nodes ≡ hs
  bare : Every Bare nodes

-- of no hops
no_route : (q : Identity) (s : List ℕ) → Route q [] s
no_route q s = record { nodes = []; last = s; apart = tt; unrefused = tt; sync_way = FirstWay.done; hops = refl; bare = tt }

-- with a node in front
in_front :
    (q : Identity) (m : Mode) (b : Bool) (h : Hop) (hs : List Hop) (s : List ℕ) (o : Option (List ℕ))
    → mode_number m ≡ h.mode
    → accepted_of (Ok h.residence) ≡ value h.residence
    → kind_of s ≡ sync q b
    → SecondUnrefused (node m h.residence s o)
    → Route q hs (first_reply m h.residence s).message
    → Route q (h ∷ hs) s
in_front q m b h hs s o number accepted k second r =
    let u = h.residence in
    let n = node m u s o in
    let same : hop_at n ≡ h = λ i. record { mode = number i; residence = units_of (accepted i) } in
    record {
      nodes = n ∷ r.nodes;
      last = r.last;
      apart = (node-Apart q m u s o, r.apart);
      unrefused = ((not_refused (ap some (first_answer_lem q u accepted s m b k)), second), r.unrefused);
      sync_way = FirstWay.cross (record { handed = call_on m u s; here = refl; mode = refl; octets = refl; outcome = refl }) r.sync_way;
      hops = λ i. same i ∷ r.hops i;
      bare = (node-Bare m u s o, r.bare);
    }

-- a node that creates nothing may stand in front of what a path does for a Sync with S clear
none_in_front :
    (q : Identity) (n : Stop) {ns : List Stop} {first second : ℤ}
    → Uncrossed n
    → (first_answer n ≡ some (value created) → ⊥)
    → FollowUps q false ns first second
    → FollowUps q false (n ∷ ns) first second
none_in_front q n x c (born before m us u at a p w) = born (n ∷ before) m (x, us) u at a p w
none_in_front q n x c (never {ns = ns} all) = never {ns = n ∷ ns} ((x, c), all)

-- a good hop has a mode, and its residence is accepted
a_mode : (n : ℕ) → is_mode n ≡ true → (m : Mode) × (mode_number m ≡ n)
a_mode n e = by (eqb n 1) refl (eqb n 2) refl e
  where
    by : (a : Bool) → eqb n 1 ≡ a → (b : Bool) → eqb n 2 ≡ b → a || b ≡ true → (m : Mode) × (mode_number m ≡ n)
    by true x b y z = (one_step, sym (eqb-true n 1 x))
    by false x true y z = (two_step, sym (eqb-true n 2 y))
    by false x false y z = absurd (true≢false (sym z))

taken : (h : Hop) → Good h → (m : Mode) × (mode_number m ≡ h.mode) × (accepted_of (Ok h.residence) ≡ value h.residence)
taken h g =
    let u = h.residence in
    let (m, number) = a_mode h.mode g.0 in
    (m, number, ap (λ (t : Bool). refuse 10 t (value u)) (lt-leb limit u g.1))

module _ (q : Identity) where
  -- S set: the Sync and its Follow_Up cross each node
  abbrev BothCross : List Hop → List ℕ → List ℕ → Type 0
  BothCross hs s f = (r : Route q hs s) × (last : List ℕ) × SecondWay f r.nodes last

  both_cross : (hs : List Hop) → AllGood hs → (s f : List ℕ) → kind_of s ≡ sync q true → kind_of f ≡ follow_up q → BothCross hs s f
  unfolding no_route in_front
  both_cross [] g s f k l = (no_route q s, f, SecondWay.done)
  both_cross (h ∷ hs) g s f k l =
      let (m, number, ok) = taken h g.0 in
      let u = h.residence in
      let s' = (first_reply m u s).message in
      let f' = (second_reply m u s f).message in
      let (r, last, w) = both_cross hs g.1 s' f' (first_kind q u ok s m true k) (second_kind q u ok s f k l m) in (
        in_front q m true h hs s (some f) number ok k (second_unrefused q u ok s f k l m) r,
        last,
        SecondWay.cross 1 refl (record { handed = call_on m u f; here = refl; mode = refl; octets = refl; outcome = refl }) w,
      )

  -- S clear: the Sync crosses each node, and the Follow_Up those after the first two-step node, which creates it, if there is one
  abbrev SyncCrosses : List Hop → List ℕ → Type 0
  SyncCrosses hs s = (r : Route q hs s) × (second : ℤ) × FollowUps q false r.nodes (pos 0) second

  sync_crosses : (hs : List Hop) → AllGood hs → (s : List ℕ) → kind_of s ≡ sync q false → SyncCrosses hs s
  unfolding no_route in_front
  sync_crosses [] g s k = (no_route q s, pos 0, never tt)
  sync_crosses (h ∷ hs) g s k = let (m, number, ok) = taken h g.0 in by m number ok (λ s' k'. sync_crosses hs g.1 s' k')
    where
      u : ℕ
      u = h.residence

      by :
          (m : Mode)
          → mode_number m ≡ h.mode
          → accepted_of (Ok u) ≡ value u
          → ((s : List ℕ) → kind_of s ≡ sync q false → SyncCrosses hs s)
          → SyncCrosses (h ∷ hs) s
      by one_step number ok clear =
          let answer = first_answer_lem q u ok s one_step false k in
          let (r, second, w) = clear (first_reply one_step u s).message (first_kind q u ok s one_step false k) in (
            in_front q one_step false h hs s none number ok k (λ a. none-ne-some (refused a)) r,
            second,
            none_in_front q (node one_step u s none) refl (not_created (ap (λ (x : Answer Word). says created (some x)) answer)) w,
          )
      by two_step number ok clear =
          let c = call_on two_step u s in
          let answer = first_answer_lem q u ok s two_step false k in
          let l = (sync-created c (table_answer (rules.request c) no_records) q refl k answer).kind in
          let d = first_reply two_step u s in
          let (r, last, w) = both_cross hs g.1 d.message (take 36 d.output) (first_kind q u ok s two_step false k) l in (
            in_front q two_step false h hs s none number ok k (λ a. none-ne-some (refused a)) r,
            pad_of last,
            born [] (node two_step u s none) tt refl refl answer (Permᴰ.refl r.nodes) w,
          )

-- ---- the messages at the start

-- a message of this kind and pad
record Message (k : Kind) (z : ℤ) : Type 0 where
  octets : List ℕ
  kind : kind_of octets ≡ k
  pad : pad_of octets ≡ z

-- from one with another pad
message : (k : Kind) (s : List ℕ) (z : ℤ) → kind_of s ≡ k → kind_identity k ≡ some mine → SFits w64 z → Message k z
message k s z e i f =
    let in_range_lem = fits_range z f in
    let m = sound_ptp s mine (ap kind_identity e ∙ i) in
    record { octets = with_pad s z; kind = with_pad_kind s z in_range_lem m ∙ e; pad = with_pad_pad s z in_range_lem (omega (arith, m.long)) }

-- ---- the theorem

-- a path of them, with its Follow_Up, shows their plan
shown_by :
    (hs : List Hop) (s : Start) (e : End)
    → plan_of hs s ≡ value e
    → (m : Message (sync mine s.two_step) s.sync_pad) (r : Route mine hs m.octets) {first second : ℤ}
    → (s.two_step ≡ true → first ≡ s.follow_up_pad)
    → FollowUps mine s.two_step r.nodes first second
    → ShownBy hs s e
shown_by hs s e p m r {first} {second} f w =
    let b = s.two_step in
    let handed = s.follow_up_pad in
    let c : Crossed mine b m.octets r.last r.nodes first second =
    record { kind_is_sync = m.kind; apart = r.apart; unrefused = r.unrefused; sync_way = r.sync_way; follow_ups = w } in
    let few : length r.nodes ≤ 255 =
    omega (arith, (plan_value hs s e p).0, length-map r.nodes hop_at, ap length r.hops) in
    let plan = (plan_shown mine b m.octets r.last r.nodes first second handed few c (λ t. sym (f t))).0 in
    record {
      identity = mine;
      start = m.octets;
      last = r.last;
      path = r.nodes;
      first = first;
      second = second;
      crossed = c;
      hops = r.hops;
      bare = r.bare;
      sync_starts = m.pad;
      follow_up_starts = f;
      ends = same_value (sym plan ∙ (λ i. plan_of (r.hops i) (start_with (m.pad i) handed b)) ∙ p);
    }

-- whatever hops and pads are planned, some path shows that plan
pub every_plan_shown : EveryPlanShown
every_plan_shown hs s e f g p = by s.two_step refl p
  where
    from : Bool → Start
    from b = start_with s.sync_pad s.follow_up_pad b

    by : (b : Bool) → s.two_step ≡ b → plan_of hs (from b) ≡ value e → ShownBy hs (from b) e
    by true t p =
        let m = message (sync mine true) (octets_of mine true 0 (pos 0)) s.sync_pad refl refl f in
        let d = message (follow_up mine) (octets_of mine true 8 (pos 0)) s.follow_up_pad refl refl (g t) in
        let (r, last, w) = both_cross mine hs (plan_value hs (from true) e p).1 m.octets d.octets m.kind d.kind in
        shown_by hs (from true) e p m r (λ i. d.pad) (existing d.kind (Permᴰ.refl r.nodes) w)
    by false t p =
        let m = message (sync mine false) (octets_of mine false 0 (pos 0)) s.sync_pad refl refl f in
        let (r, second, w) = sync_crosses mine hs (plan_value hs (from false) e p).1 m.octets m.kind in
        shown_by hs (from false) e p m r (λ i. absurd (true≢false (sym i))) w
