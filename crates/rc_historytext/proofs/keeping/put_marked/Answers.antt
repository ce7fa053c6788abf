use Rattle.rc_historytext.proofs.keeping.put_marked.Goals as goal

pub cut_later-requires : goal.cut_later-requires
cut_later-requires c = c.replace.ensures.text c.requires.text c.requires.short
