use denote.Text.{Utf8}
use denote.Shadow.{shadow}
use Rattle.voy_case_text.proofs.case.Case.new.Given as goal

-- what is left of the paragraph is a text
abbrev pub invariant-loop-line : goal.invariant-loop-line
invariant-loop-line l =
    (goal.iterator-loop-line).can_next l._line-iterator ×
    (goal.iterator-loop-line).is_finite l._line-iterator ×
    shadow (Utf8 l.left)
