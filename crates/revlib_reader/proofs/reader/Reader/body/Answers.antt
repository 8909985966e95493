-- A turn reads one line more, at the reader's position in the text that was passed.
use Rattle.std.proofs.Common.{◌≡◌, sym, ap, ◌∙◌, List, ℕ, Option, Some, Bor, rules, arith}
use Rattle.revlib_reader.specs.declared.gate_lines.Line.{Line}
use Rattle.revlib_reader.specs.reader.Steps.{letters_of, line_in, behind}
use Rattle.revlib_reader.proofs.reader.Bodies.{reached_more, reached_end, reached_none, moves}
use Rattle.revlib_reader.proofs.reader.Reader.body.Goals as goal
use Rattle.revlib_reader.proofs.reader.Reader.body.Goals.{In-Some-Gate}

-- the line that was read stands in the text passed
line_is : (ls : List ℕ) (src here : Bor (List ℕ)) (at : ℕ) → here ≡ src → (o : Option Line) → o ≡ line_in ls here.now at → (p : Option Line) → o ≡ p
    → line_in ls src.now at ≡ p
line_is ls src here at over o e p k = sym (e ∙ ap (λ (y : Bor (List ℕ)). line_in ls y.now at) over) ∙ k

gate : (g : In-Some-Gate) → line_in (letters_of g.args.head.now) g.args.self.now.src.now g.loop-byte.self.at ≡ Some (Line.Gate g.in-Some-Gate.byte g.in-Some-Gate.field-0-1)
gate g =
    line_is (letters_of g.args.head.now) g.args.self.now.src g.loop-byte.self.src g.loop-byte.self.at g.loop-byte.invariant.over _ g.next.ensures.line _
    (g.in-Some-Gate.is ∙ ap Some g.in-Some-Gate.field-0-is)

pub push-requires : goal.push-requires
push-requires c =
    let g = (goal.at.push-requires c).In-Some-Gate in
    let m = moves (letters_of c.args.head.now) c.args.self.now.src.now c.args.self.now.at c.loop-byte.self.at c.loop-byte.body c.loop-byte.invariant.reached _ _ (gate g) in
    let f = c.loop-byte.invariant.reached.few in
    omega arith

pub loop-byte-smaller : goal.loop-byte-smaller
loop-byte-smaller c =
    let g = (goal.at.loop-byte-smaller c).In-Some-Gate in
    let m = moves (letters_of c.args.head.now) c.args.self.now.src.now c.args.self.now.at c.loop-byte.self.at c.loop-byte.body c.loop-byte.invariant.reached _ _ (gate g) in
    let e = c.next.ensures.at ∙ ap (behind c.loop-byte.self.at) (c.in-Some-Gate.is ∙ ap Some c.in-Some-Gate.field-0-is) in
    omega arith

pub loop-byte-preserved : goal.loop-byte-preserved
loop-byte-preserved c =
    let g = (goal.at.loop-byte-preserved c).In-Some-Gate in
    let e = c.next.ensures.at ∙ ap (behind c.loop-byte.self.at) (c.in-Some-Gate.is ∙ ap Some c.in-Some-Gate.field-0-is) in
    record {
      over = c.next.ensures.src ∙ c.loop-byte.invariant.over;
      reached =
          rw e
          (reached_more (letters_of c.args.head.now) c.args.self.now.src.now c.args.self.now.at c.loop-byte.self.at c.loop-byte.body c.loop-byte.invariant.reached _ _ (gate g)
          c.push.new.self c.push.ensures.count c.push.ensures.gates);
    }

pub returns-in-Some-End : goal.returns-in-Some-End
returns-in-Some-End c = λ m.
    let is = line_is (letters_of c.args.head.now) c.args.self.now.src c.loop-byte.self.src c.loop-byte.self.at c.loop-byte.invariant.over _ c.next.ensures.line _
    (c.in-Some-End.is ∙ ap Some c.in-Some-End.field-0-is) in
    reached_end (letters_of c.args.head.now) c.args.self.now.src.now c.args.self.now.at c.loop-byte.self.at c.loop-byte.body c.loop-byte.invariant.reached is

pub returns-in-None : goal.returns-in-None
returns-in-None c =
    let is = line_is (letters_of c.args.head.now) c.args.self.now.src c.loop-byte.self.src c.loop-byte.self.at c.loop-byte.invariant.over _ c.next.ensures.line _ c.in-None.is in
    let no = reached_none (letters_of c.args.head.now) c.args.self.now.src.now c.args.self.now.at c.loop-byte.self.at c.loop-byte.body c.loop-byte.invariant.reached is in
    search rules
