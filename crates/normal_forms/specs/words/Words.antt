-- The gates of one target as a word, a bit for each control mask.
use Rattle.std.specs.Prelude.{ℕ, ◌^◌, eqb, ltb}
use Rattle.std.specs.Int.Bits.{bit_and, bit_or}
use Rattle.logic.specs.Rules.{pick}
use Rattle.logic.specs.Bit.{bit_of}

-- all 32 control masks
abbrev pub every : ℕ
every = 4294967295

-- the masks that contain no wire of the set; the constants are the masks without wire 0, 1, 2, 3 and 4
unfoldable pub clear_of : ℕ → ℕ
clear_of wires =
    bit_and (pick (eqb (bit_of 0 wires) 1) 1431655765 every)
    (bit_and (pick (eqb (bit_of 1 wires) 1) 858993459 every)
    (bit_and (pick (eqb (bit_of 2 wires) 1) 252645135 every)
    (bit_and (pick (eqb (bit_of 3 wires) 1) 16711935 every) (pick (eqb (bit_of 4 wires) 1) 65535 every))))

-- the gates of target u that could have stood earlier, after a gate of target t with these wires; `apart` are the masks that contain none
-- of them, and `old` is the word before that gate
unfoldable pub sleep_word : ℕ → ℕ → ℕ → ℕ → ℕ → ℕ
sleep_word wires apart t u old = pick (eqb (bit_of u wires) 1) 0 (bit_and apart (pick (ltb u t) every old))

-- the gates of target u that would undo an earlier one, after a gate with controls m and target t; `free` are the masks without wire t, and
-- `old` is the word before that gate
unfoldable pub cancel_word : ℕ → ℕ → ℕ → ℕ → ℕ → ℕ
cancel_word m free t u old = bit_or (pick (eqb (bit_of u m) 1) 0 (bit_and free old)) (pick (eqb u t) (2 ^ m) 0)
