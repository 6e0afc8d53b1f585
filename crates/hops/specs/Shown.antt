-- The plan is what paths show (document 02, W-212: "Show it equal to what W-203's rules over the stay give under demand 3's premises for
-- every list, empty too, with W-205's largest pad included."). Each way round is a theorem: the plan of a path is what the path shows
-- (`PlanShown`), and every plan is that of some path (`EveryPlanShown`), so that no list of hops is left out.
use Rattle.std.specs.Prelude.{ℕ, ◌≤◌, ◌≡◌, Bool, true, false, List, map, ◌⊎◌, ℤ, length, replicate}
use Rattle.std.proofs.Math.Option.{none, some}
use Rattle.std.specs.Int.{w64}
use Rattle.std.proofs.Common.{SFits}
use Rattle.refusal.specs.Answer.{value}
use Rattle.records.specs.declared.Identity.{Identity}
use Rattle.records.specs.Slots.{zeros}
use Rattle.rules.specs.Change.{pad_of}
use Rattle.rules.specs.Rules.{Kind, sync, follow_up, delay_req, delay_resp, timed, untimed, unreadable, kind_of, Mode, one_step, two_step}
use Rattle.rules.specs.Path.{Stop, Unrefused, Apart, Every, FirstWay, FollowUps, existing, born, never, residence_at}
use Rattle.hops.specs.declared.Hop.{Hop}
use Rattle.hops.specs.declared.Start.{Start}
use Rattle.hops.specs.declared.End.{End}
use Rattle.hops.specs.Plan.{start_with, plan_of}

-- a node of a path as a hop: its mode, and the residence of the Sync's call there
abbrev pub mode_number : Mode → ℕ
mode_number one_step = 1
mode_number two_step = 2

abbrev pub hop_at : Stop → Hop
hop_at n = record { mode = mode_number n.mode; residence = residence_at n }

-- Demand 3's premises (`rules` Demand3, PathSum): a Sync with this S and its Follow_Up cross the nodes of a path, of which each has any
-- table without a record of their identity, and any other calls, ticks and switchovers; no call on the two is refused. The octets and the
-- pads are those at the start and at the end. No pad is asked to be below 2^63-1.
pub record Crossed (q : Identity) (s : Bool) (start last : List ℕ) (path : List Stop) (first second : ℤ) : Type 0 where
  pub kind_is_sync : kind_of start ≡ sync q s
  pub apart : Every (Apart q) path
  pub unrefused : Every Unrefused path
  pub sync_way : FirstWay start path last
  pub follow_ups : FollowUps q s path first second

-- S of a Sync, as it is read
abbrev pub two_step_in : Kind → Bool
two_step_in (sync q s) = s
two_step_in (follow_up q) = false
two_step_in (delay_req q) = false
two_step_in (delay_resp q) = false
two_step_in timed = false
two_step_in untimed = false
two_step_in (unreadable n) = false

-- a Follow_Up exists at the end: it did at the start, or a node created it
abbrev pub is_there : {q : Identity} {s : Bool} {path : List Stop} {first second : ℤ} → FollowUps q s path first second → Bool
is_there (existing k p w) = true
is_there (born before n us u at a p w) = true
is_there (never all) = false

-- what the two show at the end of the path
abbrev pub shown : {q : Identity} {s : Bool} {start last : List ℕ} {path : List Stop} {first second : ℤ} → Crossed q s start last path first second → End
shown {last = last} {second = second} c =
    record {
      sync_pad = pad_of last;
      follow_up_pad = second;
      two_step = two_step_in (kind_of last);
      exists = is_there c.follow_ups;
    }

-- The plan of a path's hops is what the path shows; the Sync is still one at its end, of that identity. With S set the Follow_Up's pad
-- handed in is that which it starts with; with S clear it is any. "up to 255" hops; a path may have none.
abbrev pub PlanShown : Type 0
PlanShown =
    (q : Identity) (s : Bool) (start last : List ℕ) (path : List Stop) (first second handed : ℤ)
    → length path ≤ 255
    → (c : Crossed q s start last path first second)
    → (s ≡ true → handed ≡ first)
    → (plan_of (map hop_at path) (start_with (pad_of start) handed s) ≡ value (shown c)) × (kind_of last ≡ sync q (shown c).two_step)

-- a node with an empty table, which gets the Sync's call and then, where it crosses the node, the Follow_Up's, and nothing else
abbrev pub Bare : Stop → Type 0
Bare n =
    (n.table ≡ replicate 16 zeros)
    × (n.first_place ≡ 0)
    × (((n.second_place ≡ none) × (length n.events ≡ 1)) ⊎ ((n.second_place ≡ some 1) × (length n.events ≡ 2)))

-- A path that shows a plan: its nodes are the hops, and the Sync and, with S set, the Follow_Up start with the pads handed in.
pub record ShownBy (hs : List Hop) (s : Start) (e : End) : Type 0 where
  pub identity : Identity
  pub start : List ℕ
  pub last : List ℕ
  pub path : List Stop
  pub first : ℤ
  pub second : ℤ
  pub crossed : Crossed identity s.two_step start last path first second
  pub hops : map hop_at path ≡ hs
  pub bare : Every Bare path
  pub sync_starts : pad_of start ≡ s.sync_pad
  pub follow_up_starts : s.two_step ≡ true → first ≡ s.follow_up_pad
  pub ends : shown crossed ≡ e

-- "for every list": whatever hops and whatever pads are planned, some path shows that plan. The pads that are looked at are numbers of
-- their type, as they are in every value that the code is handed.
abbrev pub EveryPlanShown : Type 0
EveryPlanShown =
    (hs : List Hop) (s : Start) (e : End)
    → SFits w64 s.sync_pad
    → (s.two_step ≡ true → SFits w64 s.follow_up_pad)
    → plan_of hs s ≡ value e
    → ShownBy hs s e
