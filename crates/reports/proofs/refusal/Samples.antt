-- What is printed, word for word.
use mathlib.Core.Path.{◌≡◌, refl}
use Rattle.logic.specs.Words.{bytes}
use Rattle.text.specs.pieces.Text.{place, decimal, spaced, refused_line}
use Rattle.reports.specs.sentences.Meanings.{said, other_meaning, listing_meaning, library_meaning, verify_meaning, circuit_meaning, meaning}
use Rattle.reports.specs.refusal.Report.{passed_line, times, ready_line, passed_text, refused_text}

-- document 01's gates 21 43, at prices 1, 1, 5 and durations 1, 1, 7
pub passed-sample
    : passed_text (record { gates = 2; cost = 6; depth = 8; ready0 = 8; ready1 = 8; ready2 = 8; ready3 = 0; ready4 = 0 })
    ≡ bytes "passed 2 6 8\nready 8 8 8 0 0\n"
unfolding passed_text passed_line ready_line times spaced decimal place
passed-sample = refl

pub refused_sample : refused_text 16 ≡ bytes "refused 16\nthe circuit does not realize the table\n"
unfolding refused_text refused_line decimal place said meaning circuit_meaning verify_meaning
refused_sample = refl

pub marked_sample : refused_text 28 ≡ bytes "refused 28\nthe circuit is marked for three controls and the job is not\n"
unfolding refused_text refused_line decimal place said meaning circuit_meaning verify_meaning
marked_sample = refl

pub unlisted_sample : refused_text 31 ≡ bytes "refused 31\nthe circuit has a gate that is not in the library\n"
unfolding refused_text refused_line decimal place said meaning circuit_meaning verify_meaning library_meaning
unlisted_sample = refl

pub uncut_sample : refused_text 26 ≡ bytes "refused 26\nthe batch is not up to 64 whole records of 20 or 28 bytes\n"
unfolding refused_text refused_line decimal place said meaning circuit_meaning verify_meaning library_meaning listing_meaning other_meaning
uncut_sample = refl

pub unlike_sample : refused_text 38 ≡ bytes "refused 38\nthe jobs differ in more than one price, or limit the cost\n"
unfolding refused_text refused_line decimal place said meaning circuit_meaning verify_meaning library_meaning listing_meaning other_meaning
unlike_sample = refl

pub unwindowed_sample : refused_text 32 ≡ bytes "refused 32\nthe wires are not 3 or 4, or the window is not 2 to 4 gates\n"
unfolding refused_text refused_line decimal place said meaning circuit_meaning verify_meaning library_meaning listing_meaning
unwindowed_sample = refl

-- 11 is reserved and never comes up
pub unused_sample : refused_text 11 ≡ bytes "refused 11\nno rule has this number\n"
unfolding refused_text refused_line decimal place said meaning circuit_meaning verify_meaning library_meaning listing_meaning other_meaning
unused_sample = refl
