-- What a line that was read says. No public contract speaks of it.
use Rattle.rc_livetext.specs.declared.lines.LineForm.{LineForm}
use Rattle.rc_livetext.specs.declared.lines.LineForm.TheVariants as form
use Rattle.rc_livetext.specs.Text.{Line, First, OfServices, OfBound, OfState, OfBundle, Last}

abbrev pub line_text : LineForm → Line
line_text (form.First bounded) = First bounded
line_text (form.Services names) = OfServices names.items
line_text (form.Bound bound) = OfBound bound
line_text (form.State current names) = OfState current names.items
line_text (form.Bundle b) = OfBundle b
line_text form.Last = Last
