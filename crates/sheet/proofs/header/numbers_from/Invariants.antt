use mathlib.Core.Path.{◌≡◌}
use mathlib.Core.List.{List}
use lib.ListN.{length}
use Rattle.sheet.specs.Header.{HeaderLine}
use Rattle.sheet.specs.Steps.{Keys}
use Rattle.sheet.proofs.NumberLines.{NumberLoop}
use Rattle.sheet.proofs.header.numbers_from.Given as goal

abbrev pub invariant-loop-i : goal.invariant-loop-i
invariant-loop-i g l = record {
  kept : length l.numbers ≡ length l.fn.header;
  told : (ls : List HeaderLine) → Keys l.fn.header ls → NumberLoop l.fn.s l.fn.from l.fn.first l.fn.names l.fn.header ls l.numbers l.at l.i;
}
