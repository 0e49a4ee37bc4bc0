-- The definitions answer the examples as they should.
use mathlib.Core.Path.{◌≡◌, refl}
use mathlib.Core.List.{map}
use Rattle.names.specs.Names.{is_digit}
use Rattle.headers.specs.Head.{form_allowed, permits, misfits, big_endian_from, definite_at, indefinite_at, long_at, by_first, length_at, item_at, closing_at, head_at}
use Rattle.octets.specs.Walk.{run_for, run}
use Rattle.tree.specs.Tree.{tree_of}
use Rattle.contents.specs.Search.{first_run}
use Rattle.calendar.specs.Calendar.{days_in, exists, two_digits, two_number, spells_ten, day_at, names_day}
use Rattle.dates.specs.Dates.{Date, zeros, in_each, dates_in, date_from, the_date, date_in}
use Rattle.dates.specs.Examples.{Example, values, streams}

-- an example with what the definitions answer
abbrev as_answered : Example → Date → Example
as_answered e d = record { octets = e.octets; number = d.number; day = d.day }

pub values-hold : map (λ e. as_answered e (date_from e.octets)) values ≡ values
unfolding date_from names_day spells_ten exists day_at two_digits two_number days_in is_digit
values-hold = refl

pub streams-hold : map (λ e. as_answered e (date_in (first_run 0xA0 (tree_of e.octets)))) streams ≡ streams
unfolding the_date date_from names_day spells_ten exists day_at two_digits two_number days_in is_digit dates_in in_each zeros first_run run run_for head_at item_at closing_at length_at by_first long_at indefinite_at definite_at misfits big_endian_from form_allowed permits
streams-hold = refl
