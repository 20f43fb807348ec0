-- What is counted of a run: the course of each key, and the exchanges.
-- Source: own (metrics).
use Rattle.std.specs.Prelude.{ℕ, ◌+◌, List, [], ◌∷◌, length, slice_get, slice_set, Option, Some, None, option_map}
use Rattle.std.specs.Option.{option_map_or}
use Rattle.std.specs.List.{fold}
use Rattle.kmip_batch_items.specs.Operations.{operation_with}
use Rattle.kmip_batch_items.specs.declared.operation.Operation.{Operation}
use Rattle.kmip_client.specs.declared.part.Part.{Part}
use Rattle.kmip_plan.specs.declared.key.Key.{Key}
use Rattle.kmip_tally.specs.Courses.{asking, nothing_asked, steps_taken}
use Rattle.kmip_tally.specs.declared.course.Course.{Course}
use Rattle.kmip_run_record.specs.OperationCounts.{one_more}
use Rattle.kmip_run_record.specs.declared.silence.Silence.{Silence}
use Rattle.kmip_run_record.specs.declared.silence.Silence.TheVariants.{Unreadable}

-- The course of a key of which so many steps are known when the run begins.
abbrev pub begun_course : ℕ → Course
begun_course done = record { before = done; known = done; asked = nothing_asked }

-- A list in which the element at a place is changed; the same list if it has none there.
abbrev pub changed_at : {A : Type 0} → (A → A) → List A → ℕ → List A
changed_at change xs place = option_map_or (λ x. slice_set xs place (change x)) (slice_get xs place) xs

-- The run asked an operation in a course.
abbrev pub course_asked : Operation → Course → Course
course_asked operation course = record course { asked = asking operation course.asked }

-- So many steps are known now.
abbrev pub course_at : ℕ → Course → Course
course_at done course = record course { known = done }

-- The courses once an operation was asked about the key at a place, if the number is that of one.
abbrev pub courses_asked : Option Operation → List Course → ℕ → List Course
courses_asked (Some operation) courses place = changed_at (course_asked operation) courses place
courses_asked None courses place = courses

-- The courses once a question was asked.
abbrev pub courses_after : List Course → Part → List Course
courses_after courses part = courses_asked (operation_with part.operation) courses part.key

-- How many replies could not be read, after one more exchange.
abbrev pub unreadable_after : Option Silence → ℕ → ℕ
unreadable_after (Some (Unreadable fault version)) count = one_more count
unreadable_after silence count = count

-- How many steps of a key the run took, by its course.
abbrev pub steps_at : Key → Option Course → ℕ
steps_at key (Some course) = length (steps_taken course key.target)
steps_at key None = 0

-- The same of some keys, the first of which is at this place.
abbrev pub steps_from : ℕ → List Key → List Course → List ℕ
steps_from place [] courses = []
steps_from place (key ∷ keys) courses = steps_at key (slice_get courses place) ∷ steps_from (place + 1) keys courses

-- How many steps of each key the run took, in the order of the plan.
abbrev pub steps_of : List Key → List Course → List ℕ
steps_of keys courses = steps_from 0 keys courses
