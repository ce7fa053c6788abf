use Rattle.std.proofs.Common.{◌≡◌, ◌∷◌, ◌++◌, take}
use Rattle.std.specs.List.{flat_map}
use Rattle.rc_render.specs.Lines.{names_at}
use Rattle.rc_render.proofs.told.add_line.Given as goal

-- the word and the names so far
abbrev pub invariant-loop-id : goal.invariant-loop-id
invariant-loop-id l =
    l.text.items ≡ l.fn.text.items
    ++ (l.word ++ flat_map (λ name. 32 ∷ name) (names_at l.names (take l.id-index l.ids)))
