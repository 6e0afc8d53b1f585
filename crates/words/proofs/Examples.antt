-- A table with something in all that is reserved, through each operation: every word afterwards.
-- Assumes nothing.
use Prim.Native.Nat.{ℕ, ◌+◌, ◌*◌}
use mathlib.Core.Path.{◌≡◌, refl}
use mathlib.Core.List.{List, ◌∷◌}
use lib.ListN.{set, replicate}
use Rattle.refusal.specs.Answer.{value, refused}
use Rattle.records.specs.declared.Identity.{Identity}
use Rattle.records.specs.declared.RecordKind.TheVariants.{Sync, Delay}
use Rattle.records.specs.Slots.{holds, same, zeros, fresh}
use Rattle.records.specs.Node.{add, collect, table_answer}
use Rattle.words.specs.Words.{decoded, slots_of, number_of, key_of, packed_of, put_slot, with_number, words_after, tick_words, loaded_words}

-- Word 0 has the number 2 below its reserved bits, word 7 is reserved. Slot 0 holds a Delay record, slot 1 a Sync's with a wait of 1; both
-- have reserved bits, 3 in octet 1 and 5 above the kind. Slot 2 is empty, with rubbish in all its words.
abbrev delay_req : Identity
delay_req = record { kind = Delay; clock = 11; port = 9; sequence = 258 }

abbrev first : Identity
first = record { kind = Sync; clock = 11; port = 9; sequence = 258 }

abbrev second : Identity
second = record { kind = Sync; clock = 12; port = 1; sequence = 2 }

-- a packed word with these reserved bits, kind, port number, sequence and wait
abbrev word : ℕ → ℕ → ℕ → ℕ → ℕ → ℕ → ℕ
word above kind port sequence beside wait = ((((above * 2 + kind) * 65536 + port) * 65536 + sequence) * 256 + beside) * 256 + wait

abbrev start : List ℕ
start =
    set (set (set (set (set (set (set (set (set (set (set (replicate 64 0) 0 0xAB02) 7 99) 16 11) 17 (word 5 1 9 258 3 2)) 18 1000) 19 11) 20 (word 5 0 9 258 3 1)) 21 2000) 22 7) 23 (word 6 1 1 1 4 0)) 24 8

-- what they mean
means : (slots_of start ≡ record { kind = Delay; clock = 11; port = 9; sequence = 258; residence = 1000; wait = 2 } ∷ record { kind = Sync; clock = 11; port = 9; sequence = 258; residence = 2000; wait = 1 } ∷ record { kind = Delay; clock = 7; port = 1; sequence = 1; residence = 8; wait = 0 } ∷ replicate 13 zeros) × (number_of start ≡ 2)
unfolding decoded slots_of number_of
means = (refl, refl)

-- a record is added: the whole of slot 2, and the number
added : words_after (add second 3000) start ≡ set (set (set (set start 22 12) 23 (word 0 0 1 2 0 3)) 24 3000) 0 0xAB03
unfolding decoded slots_of number_of key_of packed_of put_slot with_number holds same
added = refl

-- an identity that waits is refused, and every word stays
add-refused : (table_answer (add first 3000) (slots_of start) ≡ refused 13) × (words_after (add first 3000) start ≡ start)
unfolding decoded slots_of number_of key_of packed_of put_slot with_number holds same
add-refused = (refl, refl)

-- a record is collected, of its own kind: slot 1 is zeros, and slot 0 stays bit for bit
collected : (table_answer (collect first) (slots_of start) ≡ value 2000) × (words_after (collect first) start ≡ set (set (set (set start 19 0) 20 0) 21 0) 0 0xAB01)
unfolding decoded slots_of number_of key_of packed_of put_slot with_number holds same
collected = (refl, refl)

collect-refused : (table_answer (collect second) (slots_of start) ≡ refused 15) × (words_after (collect second) start ≡ start)
unfolding decoded slots_of number_of key_of packed_of put_slot with_number holds same
collect-refused = (refl, refl)

-- a tick: slot 0 keeps all but its wait, slot 1 is zeros, slot 2 and its rubbish stay
ticked : tick_words start ≡ set (set (set (set (set start 17 (word 5 1 9 258 3 1)) 19 0) 20 0) 21 0) 0 0xAB01
unfolding decoded slots_of number_of put_slot with_number
ticked = refl

-- a load: all 48 words of the slots, and the number; words 1 to 15 and the other bits of word 0 stay
loaded : loaded_words start (value (fresh second 3000 ∷ replicate 15 zeros)) ≡ set (set (set (set (set (replicate 64 0) 0 0xAB01) 7 99) 16 12) 17 (word 0 0 1 2 0 3)) 18 3000
unfolding key_of packed_of put_slot with_number
loaded = refl

load_refused : loaded_words start (refused 22) ≡ start
load_refused = refl
