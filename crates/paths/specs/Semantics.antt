-- What a path depends on beside its sheet: in which order a tool evaluates what document 01 evaluates in row order. Definitions only.

-- "in row order" (document 01), or in any order, each child once and whole (docs/DECISIONS.md, 115): all operands are evaluated
-- (11.3.5), and which of them first is not said (11.4.2)
pub data Order : Type 0 where
  row_order free_order : Order

-- what is asked in free order alone
pub data InFreeOrder (P : Type 0) : Order → Type 0 where
  not_asked : InFreeOrder P row_order
  is_met : P → InFreeOrder P free_order

-- the parameters of evaluation and execution, in one record
pub record Semantics : Type 0 where
  pub order : Order

-- with this order
abbrev pub under : Order → Semantics
under o = record { order = o }
