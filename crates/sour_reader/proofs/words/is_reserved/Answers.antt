use Rattle.std.proofs.Common.{rules, ◌∙◌, sym}
use Rattle.std.proofs.Math.Bool.{or-false}
use Rattle.sour_reader.proofs.Reserved.{reserved_by_length, free_by_length}
use Rattle.sour_reader.proofs.words.is_reserved.Goals as goal

pub returns-in-3 : goal.returns-in-3
returns-in-3 c = c.is_reserved_of_three.ensures ∙ sym (reserved_by_length 3 c.args.word.now c.in-3.is)

pub returns-in-4 : goal.returns-in-4
returns-in-4 c = c.is_reserved_of_four.ensures ∙ sym (reserved_by_length 4 c.args.word.now c.in-4.is)

pub returns-in-5 : goal.returns-in-5
returns-in-5 c = c.is_reserved_of_five.ensures ∙ sym (reserved_by_length 5 c.args.word.now c.in-5.is)

pub returns-in-6 : goal.returns-in-6
returns-in-6 c = c.is_reserved_of_six.ensures ∙ sym (reserved_by_length 6 c.args.word.now c.in-6.is)

pub returns-in-8 : goal.returns-in-8
returns-in-8 c = c.is_spelled.ensures ∙ sym (or-false _) ∙ sym (reserved_by_length 8 c.args.word.now c.in-8.is)

pub returns-in-9 : goal.returns-in-9
returns-in-9 c = c.is_spelled-in-9.ensures ∙ sym (or-false _) ∙ sym (reserved_by_length 9 c.args.word.now c.in-9.is)

pub returns-in_default : goal.returns-in_default
returns-in_default c =
    sym (free_by_length c.args.word.now (search rules) (search rules) (search rules) (search rules) (search rules) (search rules))
