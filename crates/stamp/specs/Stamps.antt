-- The stamps of a node call, of either format, and the residence between them.
use Rattle.std.specs.Prelude.{◌≡◌, ℕ}
use Rattle.refusal.specs.Answer.{Answer, refused}
use Rattle.residence.specs.Residence.{Residence, residence_answer, Promise}
use Rattle.stamp.specs.declared.ntp.Stamp.{Stamp}
use Rattle.stamp.specs.declared.stamps.Stamps.{Stamps}
use Rattle.stamp.specs.declared.stamps.Stamps.TheVariants.{Ptp, Ntp}
use Rattle.stamp.specs.Ptp as ptp
use Rattle.stamp.specs.Ntp as ntp

-- the stay in pad units, or 9 or 10
abbrev pub residence_of : Stamps → Answer ℕ
residence_of (Ptp entry exit) = ptp.residence_of entry exit
residence_of (Ntp entry exit) = ntp.residence_of entry exit

-- "9 never occurs here": NTP stamps are refused with 10 alone
abbrev pub TooLongAlone : Type 0
TooLongAlone = (entry exit : Stamp) (n : ℕ) → residence_of (Ntp entry exit) ≡ refused n → n ≡ 10

-- "Both formats go through the same node rules, proved once over the stay": a residence of either keeps its promise to a node
abbrev pub KeepsPromise : Type 0
KeepsPromise = (s : Stamps) (r : Residence) → residence_answer r ≡ residence_of s → Promise r
