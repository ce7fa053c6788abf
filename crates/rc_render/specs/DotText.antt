-- The picture of a database: the graph of needs in the language of graphviz.
use Rattle.std.specs.Prelude.{ℕ, Bool, true, false, List, [], ◌∷◌, ◌++◌, Option, Some, None, codes}
use Rattle.std.specs.Prelude.{if◌then◌else◌, length, nat_eq, slice_get, slice_index_or}
use Rattle.std.specs.List.{flat_map, range_with_len}
use Rattle.rc_model.specs.declared.Kind.{Kind}
use Rattle.rc_model.specs.declared.Kind.TheVariants.{Oneshot, Longrun, Bundle}
use Rattle.rc_model.specs.Database.{Database, Service}
use Rattle.rc_render.specs.Lines.{line, names_at}
use Rattle.rc_render.specs.Names.{names_in}

-- a byte between quotes: `"` and `\` after a `\`, `&` as the entity that graphviz shows as it
abbrev pub quoted_byte : ℕ → List ℕ
quoted_byte byte = if nat_eq byte 34 then 92 ∷ 34 ∷ []
    else (if nat_eq byte 92 then 92 ∷ 92 ∷ []
    else (if nat_eq byte 38 then codes "&amp;" else byte ∷ []))

-- a name between quotes
abbrev pub in_quotes : List ℕ → List ℕ
in_quotes name = 34 ∷ (flat_map quoted_byte name ++ 34 ∷ [])

-- the shape of a kind
abbrev pub shape : Kind → List ℕ
shape Oneshot = codes "ellipse"
shape Longrun = codes "box"
shape Bundle = codes "folder"

-- an essential service has a second outline, and one that is live is filled
abbrev pub marks : (essential live : Bool) → List ℕ
marks false false = []
marks true false = codes ",peripheries=2"
marks false true = codes ",style=filled"
marks true true = codes ",peripheries=2,style=filled"

-- how a node looks
abbrev pub look : Kind → (essential live : Bool) → List ℕ
look kind essential live = codes " [shape=" ++ shape kind ++ marks essential live ++ codes "]"

-- the line of a node
abbrev pub node_line : List ℕ → List ℕ → List ℕ
node_line name look = line (codes "  " ++ in_quotes name ++ look)

-- the end of an edge to what is needed, and to a member of a bundle
abbrev pub need_end : List ℕ
need_end = line []

abbrev pub member_end : List ℕ
member_end = line (codes " [style=dashed]")

-- the line of an edge from one name to another
abbrev pub edge_line : List ℕ → List ℕ → List ℕ → List ℕ
edge_line end from to = codes "  " ++ in_quotes from ++ codes " -> " ++ in_quotes to ++ end

-- the lines of the edges from a name to others
abbrev pub edge_lines : List ℕ → List ℕ → List (List ℕ) → List ℕ
edge_lines end from names = flat_map (edge_line end from) names

-- the node of a service
abbrev pub service_line : List ℕ → Option Service → Bool → List ℕ
service_line name None live = []
service_line name (Some service) live = node_line name (look service.kind service.essential live)

-- a service: its node, and an edge to each that it needs
abbrev pub service_lines : Database → List Bool → ℕ → List ℕ
service_lines d live s = service_line (slice_index_or d.names s []) (slice_get d.services s)
    (slice_index_or live s false)
    ++ edge_lines need_end (slice_index_or d.names s [])
    (names_at d.names (slice_index_or d.needs s []))

-- a bundle: its node, and an edge to each of its members
abbrev pub bundle_lines : List (List ℕ) → List ℕ × List Bool → List ℕ
bundle_lines names bundle = node_line bundle.0 (look Bundle false false)
    ++ edge_lines member_end bundle.0 (names_in names bundle.1)

-- the picture of a database in which these services are live
abbrev pub dot_text : Database → List Bool → List ℕ
dot_text d live = line (codes "digraph undorc {")
    ++ flat_map (service_lines d live) (range_with_len 0 (length d.names))
    ++ flat_map (bundle_lines d.names) d.table ++ line (codes "}")
