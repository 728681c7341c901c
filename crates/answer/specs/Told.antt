-- An answer's numbers as the code has them.
use Rattle.answer.specs.Answer.{Answer, answer}
use Rattle.answer.specs.declared.Numbers.{Numbers}

-- the same five numbers
abbrev pub told : Numbers → Answer
told n = answer n.number n.first n.second n.third n.count
