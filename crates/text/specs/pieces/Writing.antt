-- What a buffer holds after a piece of text was written into it.
use Rattle.std.specs.Prelude.{◌≡◌, List, ℕ, ◌+◌, length}
use Rattle.std.proofs.lemmas.List.Edits.{sets}

-- a buffer with a text laid over it from index i on
unfoldable pub over : List ℕ → ℕ → List ℕ → List ℕ
over out i text = sets out i text

-- a text was written from index i on, and the next piece goes to index `next`
pub record Wrote (old : List ℕ) (i : ℕ) (text new : List ℕ) (next : ℕ) : Type 0 where
  pub bytes : new ≡ over old i text
  pub size : next ≡ i + length text
