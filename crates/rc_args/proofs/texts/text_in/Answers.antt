use Rattle.rc_args.proofs.SessionWordsLemmas.{text_found}
use Rattle.rc_args.proofs.texts.text_in.Goals as goal

pub returns : goal.returns
returns c = text_found c.args.matches.now c.args.id.now _ c.get_str.ensures
