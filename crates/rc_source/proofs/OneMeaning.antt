-- An entry means one thing.
use Rattle.std.proofs.Common.{◌≡◌, ◌∙◌, ℕ, Bool, List, Option, sym, ap, subst}
use Rattle.std.proofs.lemmas.Option.{same_Some}
use Rattle.rc_model.specs.declared.Kind.{Kind}
use Rattle.rc_source.specs.Tree.{Source}
use Rattle.rc_source.specs.Meaning.{Meaning, Means}
use Rattle.rc_source.proofs.Members.{listed_once}

-- a meaning from its parts
unfoldable meaning_from : List ℕ → Kind → ℕ → ℕ → Bool → Option (List ℕ) → Option (List ℕ)
    → Option (List ℕ) → Option (List ℕ) → List (List ℕ) → List (List ℕ) → List (List ℕ) → Meaning
meaning_from name kind limit_up limit_down essential up down producer_for pipeline_name dependencies
    consumer_for contents = record {
      name = name;
      kind = kind;
      limit_up = limit_up;
      limit_down = limit_down;
      essential = essential;
      up = up;
      down = down;
      producer_for = producer_for;
      pipeline_name = pipeline_name;
      dependencies = dependencies;
      consumer_for = consumer_for;
      contents = contents;
    }

same_parts : (name_a name_b : List ℕ) (kind : Kind) (lu_a lu_b ld_a ld_b : ℕ) (e_a e_b : Bool)
    (u_a u_b d_a d_b p_a p_b n_a n_b : Option (List ℕ))
    (de_a de_b co_a co_b ct_a ct_b : List (List ℕ))
    → name_a ≡ name_b → lu_a ≡ lu_b → ld_a ≡ ld_b → e_a ≡ e_b → u_a ≡ u_b → d_a ≡ d_b → p_a ≡ p_b
    → n_a ≡ n_b → de_a ≡ de_b → co_a ≡ co_b → ct_a ≡ ct_b
    → meaning_from name_a kind lu_a ld_a e_a u_a d_a p_a n_a de_a co_a ct_a
    ≡ meaning_from name_b kind lu_b ld_b e_b u_b d_b p_b n_b de_b co_b ct_b
same_parts name_a name_b kind lu_a lu_b ld_a ld_b e_a e_b u_a u_b d_a d_b p_a p_b n_a n_b de_a de_b
    co_a co_b ct_a ct_b h1 h2 h3 h4 h5 h6 h7 h8 h9 h10 h11 = cc

module _ (source : Source) (entry : List ℕ) where
  -- with the kind that another has
  at_kind : (m : Meaning) (kind : Kind) → m.kind ≡ kind → Means source entry m
      → Means source entry (record {
        name = m.name;
        kind = kind;
        limit_up = m.limit_up;
        limit_down = m.limit_down;
        essential = m.essential;
        up = m.up;
        down = m.down;
        producer_for = m.producer_for;
        pipeline_name = m.pipeline_name;
        dependencies = m.dependencies;
        consumer_for = m.consumer_for;
        contents = m.contents;
      })
  at_kind m kind same means = subst (λ k. Means source entry (record {
    name = m.name;
    kind = k;
    limit_up = m.limit_up;
    limit_down = m.limit_down;
    essential = m.essential;
    up = m.up;
    down = m.down;
    producer_for = m.producer_for;
    pipeline_name = m.pipeline_name;
    dependencies = m.dependencies;
    consumer_for = m.consumer_for;
    contents = m.contents;
  })) same means

  -- the kinds are one, and so are the other parts
  with_kind : (a b : Meaning) → Means source entry a → Means source entry b → a.kind ≡ b.kind
      → meaning_from a.name b.kind a.limit_up a.limit_down a.essential a.up a.down a.producer_for
      a.pipeline_name a.dependencies a.consumer_for a.contents
      ≡ meaning_from b.name b.kind b.limit_up b.limit_down b.essential b.up b.down b.producer_for
      b.pipeline_name b.dependencies b.consumer_for b.contents
  with_kind a b x y kind =
      let z = at_kind a b.kind kind x in
      let name = z.name ∙ sym y.name in
      let limit_up = z.limit_up ∙ sym y.limit_up in
      let limit_down = z.limit_down ∙ sym y.limit_down in
      let essential = z.essential ∙ sym y.essential in
      let up = z.up ∙ sym y.up in
      let down = z.down ∙ sym y.down in
      let producer_for = z.producer_for ∙ sym y.producer_for in
      let pipeline_name = z.pipeline_name ∙ sym y.pipeline_name in
      let dependencies =
      listed_once _ a.dependencies b.dependencies z.dependencies y.dependencies in
      let consumer_for =
      listed_once _ a.consumer_for b.consumer_for z.consumer_for y.consumer_for in
      let contents = listed_once _ a.contents b.contents z.contents y.contents in
      same_parts a.name b.name b.kind a.limit_up b.limit_up a.limit_down b.limit_down a.essential
      b.essential a.up b.up a.down b.down a.producer_for b.producer_for a.pipeline_name
      b.pipeline_name
      a.dependencies b.dependencies a.consumer_for b.consumer_for a.contents b.contents name
      limit_up limit_down essential up down producer_for pipeline_name dependencies
      consumer_for contents

  pub one_meaning : (a b : Meaning) → Means source entry a → Means source entry b → a ≡ b
  unfolding meaning_from
  one_meaning a b x y =
      let kind : a.kind ≡ b.kind = same_Some a.kind b.kind (sym x.kind ∙ y.kind) in
      ap (λ k. meaning_from a.name k a.limit_up a.limit_down a.essential a.up a.down a.producer_for
      a.pipeline_name a.dependencies a.consumer_for a.contents) kind ∙ with_kind a b x y kind
