-- The code's table is computed to be the numbers of the list.
use mathlib.Core.Path.{refl}
use Rattle.kinds.specs.Kinds.{kinds, of_class, class_number}
use Rattle.kinds.specs.Steps.{numbers, sides_number, items_number, item_number, first_of, past_of, count_before, amount}
use Rattle.kinds.proofs.kinds.Goals as goal

pub returns : goal.returns
unfolding kinds numbers sides_number items_number item_number first_of past_of count_before amount of_class class_number
returns c = refl
