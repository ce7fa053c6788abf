use Rattle.rc_livetext.proofs.OneText.{one_refusal}
use Rattle.rc_livetext.proofs.form_laws.refusals_are_one.Goals as goal

pub returns : goal.returns
returns c bytes a b of_a of_b not_a not_b = one_refusal bytes a b of_a of_b not_a not_b
