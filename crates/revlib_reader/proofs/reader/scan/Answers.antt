-- The heading is read, then the body behind it.
use Rattle.std.proofs.Common.{◌≡◌, sym, ap, subst, ◌∙◌, List, ℕ, ◌≤◌, length, Option, Some, None, Result, Ok, Err}
use Rattle.std.specs.Prelude.{MatchResult}
use Rattle.std.specs.Option.{ok_or}
use Rattle.std.specs.Result.{IsErrAnd, result_ok}
use Rattle.std.proofs.lemmas.Result.{err_from_is_err_and}
use Rattle.revlib_reader.specs.declared.heading.Heading.{Heading}
use Rattle.revlib_reader.specs.declared.reader.Body.{Body}
use Rattle.revlib_reader.specs.declared.reader.Departure.{Departure}
use Rattle.revlib_reader.specs.heading.Heading.{HeadingIs, HeadingTold}
use Rattle.revlib_reader.specs.reader.Steps.{letters_of, BodyIs, TextIs}
use Rattle.revlib_reader.proofs.Outcomes.{no_heading, no_body}
use Rattle.revlib_reader.proofs.reader.scan.Goals as goal

-- the heading that was read, as a departure where it is not in order
module _ (s : List ℕ) (r : Result Heading Heading) (m : Result Heading Departure) (told : HeadingTold s r)
    (cases : MatchResult r (λ h. m ≡ Ok h) (λ h. IsErrAnd m (λ d. d ≡ Departure.Heading h))) where
  in_heading : (d : Departure) → m ≡ Err d → TextIs s (Err d)
  in_heading d e = by_told r told cases
    where
      by_told : (r : Result Heading Heading) → HeadingTold s r → MatchResult r (λ h. m ≡ Ok h) (λ h. IsErrAnd m (λ d. d ≡ Departure.Heading h)) → TextIs s (Err d)
      by_told (Ok h) told k = cc
      by_told (Err h) told k = let same : d ≡ Departure.Heading h = rw e at k in rw same (told, no_heading s told.unsound)

  past_heading : (h : Heading) → m ≡ Ok h → r ≡ Ok h
  past_heading h e = by_cases r cases
    where
      by_cases : (r : Result Heading Heading) → MatchResult r (λ h. m ≡ Ok h) (λ h. IsErrAnd m (λ d. d ≡ Departure.Heading h)) → r ≡ Ok h
      by_cases (Ok x) k = cc
      by_cases (Err x) k = absurd (rw e at k)

-- the error in the place of a value that is not there
given : (o : Option Body) (d e : Departure) → o ≡ None → ok_or o d ≡ Err e → e ≡ d
given None d e none h = cc
given (Some b) d e none h = cc

-- a departure behind the heading
in_body : (s : List ℕ) (h : Heading) → HeadingIs s h → (o : Option Body) (at : ℕ) → at ≡ h.end → (length s ≤ 4096 → BodyIs (letters_of h) s at o) → o ≡ None
    → TextIs s (Err (Departure.Body h))
in_body s h is o at end body none = (is, λ m. let no = rw (none, end) at (body m) in (no, no_body s h is no))

pub returns-in_err-head : goal.returns-in_err-head
returns-in_err-head c =
    let e = err_from_is_err_and c.from_residual.result c.from_residual.ensures.1 in
    subst (TextIs c.args.text.now) (sym (e.1 ∙ ap (λ d. Err d) e.2))
    (in_heading c.args.text.now c.heading.result _ (rw c.new-reader.ensures.0 at c.heading.ensures.heading) c.map_err.ensures.cases _ c.in_err-head.was)

pub returns-in_err-body : goal.returns-in_err-body
returns-in_err-body c =
    let src = c.heading.ensures.src ∙ c.new-reader.ensures.0 in
    let told = rw c.new-reader.ensures.0 at c.heading.ensures.heading in
    let was = past_heading c.args.text.now c.heading.result _ told c.map_err.ensures.cases c.in_ok-head.head c.in_ok-head.was in
    let none = c.ok_or.ensures.ok_part ∙ ap result_ok c.in_err-body.was in
    let e = err_from_is_err_and c.from_residual-in_err-body.result c.from_residual-in_err-body.ensures.1 in
    let behind : c.in_err-body.field-0.0 ≡ Departure.Body c.in_ok-head.head = given _ _ _ none (sym c.ok_or.ensures.value ∙ c.in_err-body.was) in
    subst (TextIs c.args.text.now) (sym (e.1 ∙ ap (λ d. Err d) (e.2 ∙ behind)))
    (in_body c.args.text.now c.in_ok-head.head (rw was at told) c.body.result _ (rw was at c.heading.ensures.at) (rw src at c.body.ensures) none)
