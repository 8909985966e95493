-- The headings for three and four data wires, without an ancilla and with one, spelled out.
use Rattle.std.proofs.Common.{◌≡◌, refl}
use Rattle.logic.specs.Words.{bytes}
use Rattle.revlib.specs.Grammar.{spaced, numvars_line, variables_line, constants_line, constants_word, heading}
use Rattle.revlib.specs.Writing.{letters_for, constants_for}
use Rattle.revlib_writer.specs.heading.Heading.{heading_for}

pub three_bare : heading_for 3 0 ≡ bytes ".version 2.0\n.numvars 3\n.variables a b c\n.begin\n"
unfolding heading_for heading numvars_line variables_line spaced constants_line letters_for constants_for
three_bare = refl

pub three_more : heading_for 3 1 ≡ bytes ".version 2.0\n.numvars 4\n.variables a b c d\n.constants ---0\n.begin\n"
unfolding heading_for heading numvars_line variables_line spaced constants_line constants_word letters_for constants_for
three_more = refl

pub four_bare : heading_for 4 0 ≡ bytes ".version 2.0\n.numvars 4\n.variables a b c d\n.begin\n"
unfolding heading_for heading numvars_line variables_line spaced constants_line letters_for constants_for
four_bare = refl

pub four_more : heading_for 4 1 ≡ bytes ".version 2.0\n.numvars 5\n.variables a b c d e\n.constants ----0\n.begin\n"
unfolding heading_for heading numvars_line variables_line spaced constants_line constants_word letters_for constants_for
four_more = refl
