-- The bits of a Bloom filter: a place is two bits of one word, which are set and never cleared.
use Rattle.std.specs.Prelude.{◌≡◌, Bool, true, List, ℕ, ◌*◌, ◌/◌, ◌%◌, eqb, leb, length, get_or}
use Rattle.logic.specs.Rules.{both, either}
use Rattle.logic.specs.Bit.{bit_of}

-- the place k of a hash in a filter of `size` bits: the word k / 4096, and of its 64 bits those at k / 64 % 64 and at k % 64
unfoldable pub key_of : ℕ → ℕ → ℕ
key_of size h = h % 4294967296 * size / 67108864

-- both bits of a place are set; a place past the end of the words counts as set
unfoldable pub lit_at : List ℕ → ℕ → Bool
lit_at bits k =
    either (leb (length bits) (k / 4096))
    (both (eqb (bit_of (k / 64 % 64) (get_or bits (k / 4096) 0)) 1) (eqb (bit_of (k % 64) (get_or bits (k / 4096) 0)) 1))

-- no place was cleared: what was set still is
abbrev pub Grown : List ℕ → List ℕ → Type 0
Grown old new = (k : ℕ) → lit_at old k ≡ true → lit_at new k ≡ true
