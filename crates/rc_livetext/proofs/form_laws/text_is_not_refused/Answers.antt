use Rattle.rc_livetext.proofs.OneText.{not_refused}
use Rattle.rc_livetext.proofs.form_laws.text_is_not_refused.Goals as goal

pub returns : goal.returns
returns c t rest fault is of_it = not_refused t rest fault is of_it
