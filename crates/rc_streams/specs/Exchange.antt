-- What goes through a reader and a writer.
use Rattle.std.specs.Prelude.{ℕ, List, Option}
use Rattle.rc_streams.specs.Noting.{inner_of}
use Rattle.rc_streams.specs.declared.noted.Noted.{Noted}

-- what a reader and a writer held before and hold after, where that is known
pub record Exchange : Type 0 where
  -- what the reader held before
  pub input : Option (List ℕ)
  -- what is left of it
  pub left : Option (List ℕ)
  -- what the writer held before
  pub written : Option (List ℕ)
  -- what it holds after
  pub gained : Option (List ℕ)

-- the exchange over these devices, of which these say what is left to read and what was written
abbrev pub exchanged : {R W : Type 0} → (remaining : R → Option (List ℕ))
    → (contents : W → Option (List ℕ)) → (reader left : Noted R) → (writer gained : Noted W)
    → Exchange
exchanged remaining contents reader left writer gained = record {
  input = remaining (inner_of reader);
  left = remaining (inner_of left);
  written = contents (inner_of writer);
  gained = contents (inner_of gained);
}
