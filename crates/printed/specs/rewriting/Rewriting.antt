-- What `gazbolk rewrite` prints for the bytes of a file.
use Rattle.std.specs.Prelude.{◌≡◌, List, ◌++◌, ℕ, length, get_or, take}
use Rattle.logic.specs.Answers.{Answer, refused, answered}
use Rattle.logic.specs.Words.{bytes}
use Rattle.text.specs.pieces.Text.{place, decimal, hex_of, spaced, line_feed}
use Rattle.reports.specs.refusal.Report.{refused_text}
use Rattle.peephole.specs.declared.windows.Prices.{Prices}
use Rattle.peephole.specs.windows.Windows.{cost_at, rewritten}
use Rattle.peephole.specs.windows.Listings.{rewrite_of}

-- a number below 10,000,000 in decimal: 4,096 gates cost up to 1,044,480
unfoldable pub millions : ℕ → List ℕ
millions n = place n 1000000 ++ (place n 100000 ++ decimal n)

-- a line: a word, a number of gates and a cost
unfoldable pub count_line : List ℕ → ℕ → ℕ → List ℕ
count_line word count c = word ++ (spaced count ++ (millions c ++ line_feed))

-- `before GATES COST`, `after GATES COST`, and the new list in hexadecimal
unfoldable pub rewritten_text : ℕ → ℕ → Prices → List ℕ → List ℕ
rewritten_text count c p new =
    count_line (bytes "before ") count c ++ (count_line (bytes "after ") (length new) (cost_at p new) ++ (hex_of new ++ line_feed))

-- the head of a file, its first five bytes, holds the wires, the window and the three prices; all other bytes are gates
abbrev pub wires_in : List ℕ → ℕ
wires_in head = get_or head 0 0

abbrev pub window_in : List ℕ → ℕ
window_in head = get_or head 1 0

abbrev pub prices_in : List ℕ → Prices
prices_in head = record { not = get_or head 2 0; cnot = get_or head 3 0; toffoli = get_or head 4 0 }

-- how many gates both lists have and what they cost, and the new list; or a refusal and what it means
abbrev pub printed_rewriting : Answer ℕ → Prices → List ℕ → List ℕ → List ℕ
printed_rewriting (refused code) p old new = refused_text code
printed_rewriting (answered count) p old new = rewritten_text (length old) (cost_at p old) p new

-- `gazbolk rewrite`
unfoldable pub rewrite_text : List ℕ → List ℕ → List ℕ
rewrite_text head l =
    printed_rewriting (rewrite_of (wires_in head) (window_in head) (prices_in head) l) (prices_in head) l
    (rewritten (wires_in head) (window_in head) (prices_in head) l)

-- the first `room` gates decide what is printed, however many there are
abbrev pub TellingList : ℕ → Type 0
TellingList room = (head l : List ℕ) → rewrite_text head (take room l) ≡ rewrite_text head l
