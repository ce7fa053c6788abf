-- What was read of the part of a service after its needs.
use Rattle.std.specs.Option.{option_map}
use Rattle.rc_dbtext.specs.declared.syntax.forms.BodyForm.{BodyForm}
use Rattle.rc_dbtext.specs.declared.syntax.forms.BodyForm.TheVariants as forms
use Rattle.rc_dbtext.specs.Text.{Body, OfLongrun, OfOneshot}

-- what follows the needs of a service, as it was read
abbrev pub body_text : BodyForm → Body
body_text (forms.Longrun producer_for) = OfLongrun producer_for
body_text (forms.Oneshot up down) = OfOneshot up.now (option_map (λ text. text.now) down)
