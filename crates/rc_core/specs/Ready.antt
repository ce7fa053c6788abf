-- Which services may be taken: how many others each waits for, and a queue of those that wait for
-- none.
use Rattle.std.specs.Prelude.{◌≡◌, ◌≢◌, ◌<◌, ◌≤◌, ◌⊎◌, ◌↔◌, ℕ, List, Bool, true, false, length}
use Rattle.std.specs.Prelude.{slice_index, slice_index_or, Contains, All, vec_len, vec_capacity}
use Rattle.std.specs.Global.{Vec}
use Rattle.rc_model.specs.Line.{Lists}
use Rattle.rc_model.specs.Names.{Has}
use Rattle.rc_model.specs.Graph.{Needs}
use Rattle.rc_graph.specs.Order.{AreDistinct}
use Rattle.rc_graph.specs.Placing.{Meets}
use Rattle.rc_model.specs.declared.Standing.TheVariants.{Down, Up}
use Rattle.rc_model.specs.declared.Event.{Event}
use Rattle.rc_model.specs.declared.Event.TheVariants.{Take, Done, Stop}
use Rattle.rc_core.specs.declared.ready.Ready.{Ready}
use Rattle.rc_model.specs.Run.{Course, IsPlanned, is_success, standing_of, WasTaken, IsLeft}

-- how many there are of which a fact holds
pub record IsCount (P : ℕ → Type 0) (many : ℕ) : Type 0 where
  pub ids : List ℕ
  pub lists : Lists P ids
  pub long : length ids ≡ many

-- all services are in a set, or none is
abbrev pub AreAlike : List Bool → Bool → Type 0
AreAlike set all = (s : ℕ) → s < length set → slice_index_or set s false ≡ all

-- what must still arrive before a service may be taken: of what it needs, where it is to come up,
-- what is not up; of what needs it, where it is to go down, what is not down
abbrev pub IsMissing : Course → List Event → ℕ → ℕ → Type 0
IsMissing c events s t =
    (Has c.raise s × Needs c.needs s t × (standing_of c events t ≢ Up))
    ⊎ (Has c.lower s × Needs c.needs t s × (standing_of c events t ≢ Down))

-- the counts are those of what is missing, 0 for what is not to move, and the queue has exactly the
-- services that are to move, were never taken and miss nothing, each once
pub record AreReady (c : Course) (events : List Event) (waits queue : List ℕ) : Type 0 where
  pub bound : length waits ≡ length c.needs
  pub counts : (s : ℕ) → IsPlanned c s → IsCount (IsMissing c events s) (slice_index waits s)
  pub idle : (s : ℕ) → (IsPlanned c s → ⊥) → slice_index waits s ≡ 0
  pub taken : (s : ℕ) → WasTaken events s → slice_index waits s ≡ 0
  pub once : AreDistinct queue
  pub ones : (s : ℕ) → Contains queue s ↔ (IsLeft c events s × (slice_index waits s ≡ 0))

-- of each service of a queue its place in it is written down
abbrev pub ArePlaces : List ℕ → List ℕ → Type 0
ArePlaces queue places =
    (k : ℕ) → k < length queue → slice_index places (slice_index queue k) ≡ k

-- the places of the queue are written down, in a list with a place for each service
pub record IsPlaced (r : Ready) : Type 0 where
  pub bound : length r.places.items ≡ length r.waits.items
  pub small : length r.waits.items ≤ 4096
  pub known : All (λ s. s < length r.waits.items) r.queue.items
  pub places : ArePlaces r.queue.items r.places.items

-- the queue has room for as many services as there are, and in it each stands once and waits for
-- none
pub record HasQueue (waits : List ℕ) (queue : Vec ℕ) : Type 0 where
  pub once : AreDistinct queue.items
  pub none : (s : ℕ) → Contains queue.items s → (s < length waits) × (slice_index waits s ≡ 0)
  pub room : length waits ≤ vec_capacity queue

-- each of a list that waits for some waits for one less, and those that wait for none from now on
-- are in the queue
pub record Arrives (list : List ℕ) (old new : Ready) : Type 0 where
  pub those : List ℕ
  pub same : (s : ℕ) → Contains those s ↔ (Contains list s × (0 < slice_index old.waits.items s))
  pub meets : Meets those old.queue.items old.waits.items new.queue.items new.waits.items
  pub capacity : vec_capacity new.queue ≡ vec_capacity old.queue

-- a service is taken out of the queue
pub record TakesOut (old : Ready) (s : ℕ) (new : Ready) : Type 0 where
  pub waits : new.waits.items ≡ old.waits.items
  pub once : AreDistinct new.queue.items
  pub ones : (t : ℕ) → Contains new.queue.items t ↔ (Contains old.queue.items t × (t ≢ s))
  pub capacity : vec_capacity new.queue ≡ vec_capacity old.queue

-- a service that has arrived is waited for by this one, which goes the same way
abbrev pub IsNext : List (List ℕ) → List Bool → List Bool → ℕ → ℕ → Type 0
IsNext needs lower raise s t =
    (Has lower s × Has lower t × Needs needs s t)
    ⊎ ((Has lower s → ⊥) × Has raise t × Needs needs t s)

-- those that wait for a service that has arrived wait for one less
pub record NotesArrival (needs : List (List ℕ)) (lower raise : List Bool) (s : ℕ)
    (old new : Ready) : Type 0 where
  pub those : List ℕ
  pub same : (t : ℕ) → Contains those t ↔ IsNext needs lower raise s t
  pub meets : Meets those old.queue.items old.waits.items new.queue.items new.waits.items
  pub capacity : vec_capacity new.queue ≡ vec_capacity old.queue

-- what comes up waits for so many: for what it needs and is not up
abbrev pub IsCountUp : List (List ℕ) → List Bool → ℕ → ℕ → Type 0
IsCountUp needs up s = IsCount (λ t. Needs needs s t × (slice_index_or up t false ≡ false))

-- what goes down waits for so many: for what needs it and is up
abbrev pub IsCountDown : List (List ℕ) → List Bool → ℕ → ℕ → Type 0
IsCountDown needs up s = IsCount (λ t. Needs needs t s × (slice_index_or up t false ≡ true))

-- each service of a set has its count in the new list, and all others have what they had
pub record Counts (Is : ℕ → ℕ → Type 0) (set : List Bool) (old new : List ℕ) : Type 0 where
  pub bound : length new ≡ length old
  pub counts : (s : ℕ) → Has set s → Is s (slice_index new s)
  pub same : (s : ℕ) → (Has set s → ⊥) → slice_index new s ≡ slice_index old s

-- how many a service waits for at first
abbrev pub IsFirstCount : List (List ℕ) → List Bool → List Bool → List Bool → ℕ → ℕ → Type 0
IsFirstCount needs up lower raise s n =
    (Has raise s → IsCountUp needs up s n)
    × ((Has raise s → ⊥) → Has lower s → IsCountDown needs up s n)
    × ((Has raise s → ⊥) → (Has lower s → ⊥) → n ≡ 0)

-- a queue of the services that are to move and wait for none, with room for all
pub record Queues (waits : List ℕ) (planned : List Bool) (queue : Vec ℕ) : Type 0 where
  pub once : AreDistinct queue.items
  pub ones : (s : ℕ) → Contains queue.items s ↔ (Has planned s × (slice_index waits s ≡ 0))
  pub few : vec_len queue ≤ length waits
  pub room : length waits ≤ vec_capacity queue

-- the counts and the queue at first
pub record IsFirstReady (needs : List (List ℕ)) (up lower raise planned : List Bool)
    (r : Ready) : Type 0 where
  pub bound : length r.waits.items ≡ length needs
  pub counts : (s : ℕ) → s < length needs
      → IsFirstCount needs up lower raise s (slice_index r.waits.items s)
  pub queue : Queues r.waits.items planned r.queue
  pub placed : IsPlaced r

-- a service that has arrived can be written in: of its neighbours those that wait for it are those
-- that wait for some, and the queue has room
pub record CanArrive (needs : List (List ℕ)) (lower raise : List Bool) (s : ℕ) (old : Ready) : Type
    0 where
  pub known : s < length needs
  pub bound : length old.waits.items ≡ length needs
  pub missing : (t : ℕ) → IsNext needs lower raise s t → 0 < slice_index old.waits.items t
  pub falls : (t : ℕ) → Has lower s → Needs needs s t → 0 < slice_index old.waits.items t →
      Has lower t
  pub rises : (t : ℕ) → (Has lower s → ⊥) → Needs needs t s → 0 < slice_index old.waits.items t →
      Has raise t
  pub queue : HasQueue old.waits.items old.queue

-- an event can be written in
abbrev pub CanNoteReady : List (List ℕ) → List Bool → List Bool → Ready → Event → Type 0
CanNoteReady needs lower raise old (Take w s) =
    Contains old.queue.items s × AreDistinct old.queue.items
CanNoteReady needs lower raise old (Done w s o) =
    is_success o ≡ true → CanArrive needs lower raise s old
CanNoteReady needs lower raise old (Stop w m) = Unit {0}

-- an event is written in
abbrev pub NotesReady : List (List ℕ) → List Bool → List Bool → Ready → Event → Ready → Type 0
NotesReady needs lower raise old (Take w s) new = TakesOut old s new
NotesReady needs lower raise old (Done w s o) new =
    (is_success o ≡ true → NotesArrival needs lower raise s old new)
    × (is_success o ≡ false → new ≡ old)
NotesReady needs lower raise old (Stop w m) new = new ≡ old
