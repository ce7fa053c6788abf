-- What can be seen of a run: its events, where each service stands, and the room for more.
use Rattle.std.specs.Prelude.{◌≡◌, ◌≤◌, ◌+◌, ◌*◌, ℕ, List, length, slice_index_or}
use Rattle.rc_model.specs.declared.Standing.{Standing}
use Rattle.rc_model.specs.declared.Standing.TheVariants.{Down}
use Rattle.rc_model.specs.declared.Event.{Event}
use Rattle.rc_model.specs.Run.{Course, standing_of, IsRun}
use Rattle.rc_model.specs.Beside.{IsCourse}

-- what is seen of a run: where each service stands, the events so far, how many services are to
-- move in the runs that it is made for, and how many events there is room for
pub record Sight : Type 0 where
  pub standings : List Standing
  pub events : List Event
  pub planned : ℕ
  pub room : ℕ

-- these events are seen, and where each service stands after them
pub record IsShown (c : Course) (events : List Event) (sight : Sight) : Type 0 where
  pub all : sight.events ≡ events
  pub bound : length sight.standings ≡ length c.needs
  pub stands : (s : ℕ) → slice_index_or sight.standings s Down ≡ standing_of c events s

-- what is seen is a run of some course
pub record IsOfRun (sight : Sight) : Type 0 where
  pub course : Course
  pub is_course : IsCourse course
  pub is_run : IsRun course sight.events
  pub shown : IsShown course sight.events sight

-- there is room for each run in which so many services are to move: two events of each, and one to
-- stop
abbrev pub HasRoom : Sight → Type 0
HasRoom sight = 2 * sight.planned + 1 ≤ sight.room
