-- `making::rules::rule` meets its contract: the rules one after another.
use mathlib.Core.Path.{◌≡◌, refl, ap, sym, ◌∙◌}
use native.Mathlib.Omega.{arith}
use Rattle.names.specs.Hash.{hash}
use Rattle.making.specs.Entries.{said_by}
use Rattle.making.proofs.Spelling.{spelt}
use Rattle.making.proofs.Ruling.{part-is, identifier-lies, portion-lies, entry-lies, refuses-27, refuses-14, refuses-15, refuses-9, refuses-none}
use Rattle.making.proofs.rules.rule.Goals as goal

pub returns-then-not-parts_lie : goal.returns-then-not-parts_lie
returns-then-not-parts_lie c =
    let buffer = c.args.buffer.now in
    let entry = c.args.entry in
    record {
      number_is = λ done keeps. sym (refuses-27 buffer done entry (sym c.parts_lie.ensures
          ∙ c.if-not-parts_lie.true));
      passes = λ hashed z. absurd cc;
      refuses = λ number z e. let same : number ≡ 27 = cc in absurd (omega arith);
    }

pub is_well_spelt-requires : goal.is_well_spelt-requires
is_well_spelt-requires c =
    let buffer = c.args.buffer.now in
    let entry = c.args.entry in
    let i = sym c.parts_lie.ensures ∙ c.if-not-parts_lie.false in
    (identifier-lies buffer entry i, portion-lies buffer entry i)

pub returns-then-not-is_well_spelt : goal.returns-then-not-is_well_spelt
returns-then-not-is_well_spelt c =
    let parts-lie = c.parts_lie in
    let buffer = c.args.buffer.now in
    let entry = c.args.entry in
    let i = sym parts-lie.ensures ∙ c.if-not-parts_lie.false in
    record {
      number_is = λ done keeps. sym (refuses-14 buffer done entry i (sym c.is_well_spelt.ensures
          ∙ c.if-not-is_well_spelt.true));
      passes = λ hashed z. absurd cc;
      refuses = λ number z e. let same : number ≡ 14 = cc in absurd (omega arith);
    }

-- the identifier lies in the buffer
pub slice_bounds-hash_over-count : goal.slice_bounds-hash_over-count
slice_bounds-hash_over-count c =
    (identifier-lies c.args.buffer.now c.args.entry (sym c.parts_lie.ensures ∙ c.if-not-parts_lie.false)).order

pub slice_bounds-hash_over-start : goal.slice_bounds-hash_over-start
slice_bounds-hash_over-start c =
    let lies = identifier-lies c.args.buffer.now c.args.entry (sym c.parts_lie.ensures ∙ c.if-not-parts_lie.false) in
    omega arith

pub slice_bounds-hash_over-end : goal.slice_bounds-hash_over-end
slice_bounds-hash_over-end c =
    let lies = identifier-lies c.args.buffer.now c.args.entry (sym c.parts_lie.ensures ∙ c.if-not-parts_lie.false) in
    omega arith

pub is_used-requires : goal.is_used-requires
is_used-requires c =
    let parts-lie = c.parts_lie in
    let buffer = c.args.buffer.now in
    let entry = c.args.entry in
    let i = sym parts-lie.ensures ∙ c.if-not-parts_lie.false in
    let lies = identifier-lies buffer entry i in
    record { bounded = c.requires; part_lies = (lies, c.hash_over-hashed.ensures.0 ∙ ap hash (part-is buffer entry.identifier lies.order)) }

pub returns-then-is_used : goal.returns-then-is_used
returns-then-is_used c =
    let parts-lie = c.parts_lie in
    let is-well-spelt = c.is_well_spelt in
    let buffer = c.args.buffer.now in
    let entry = c.args.entry in
    let i = sym parts-lie.ensures ∙ c.if-not-parts_lie.false in
    let w = sym is-well-spelt.ensures ∙ c.if-not-is_well_spelt.false in
    record {
      number_is = λ done keeps. sym (refuses-15 buffer done entry i w
          (sym (c.is_used.ensures done (said_by buffer entry) keeps (spelt (said_by buffer entry) w) refl) ∙ c.if-is_used.true));
      passes = λ hashed z. absurd cc;
      refuses = λ number z e. let same : number ≡ 15 = cc in absurd (omega arith);
    }

pub returns-then-n-ge-MOST_ENTRIES : goal.returns-then-n-ge-MOST_ENTRIES
returns-then-n-ge-MOST_ENTRIES c =
    let parts-lie = c.parts_lie in
    let is-well-spelt = c.is_well_spelt in
    let buffer = c.args.buffer.now in
    let entry = c.args.entry in
    let i = sym parts-lie.ensures ∙ c.if-not-parts_lie.false in
    let w = sym is-well-spelt.ensures ∙ c.if-not-is_well_spelt.false in
    record {
      number_is = λ done keeps. sym (refuses-9 buffer done entry i w
          (sym (c.is_used.ensures done (said_by buffer entry) keeps (spelt (said_by buffer entry) w) refl)
          ∙ c.if-is_used.false) (omega (arith, keeps.counted)));
      passes = λ hashed z. absurd cc;
      refuses = λ number z e. let same : number ≡ 9 = cc in absurd (omega arith);
    }

pub returns : goal.returns
returns c =
    let parts-lie = c.parts_lie in
    let is-well-spelt = c.is_well_spelt in
    let buffer = c.args.buffer.now in
    let entry = c.args.entry in
    let i = sym parts-lie.ensures ∙ c.if-not-parts_lie.false in
    let w = sym is-well-spelt.ensures ∙ c.if-not-is_well_spelt.false in
    record {
      number_is = λ done keeps. sym (refuses-none buffer done entry i w
          (sym (c.is_used.ensures done (said_by buffer entry) keeps (spelt (said_by buffer entry) w) refl)
          ∙ c.if-is_used.false) (omega (arith, keeps.counted)));
      passes = λ hashed z.
          let same : c.hash_over-hashed.result ≡ hashed = cc in
          let lies = entry-lies buffer entry i w in
          record { lies = lies; few = omega arith; hash_is = sym same ∙ (c.hash_over-hashed.ensures.0 ∙ ap hash (part-is buffer entry.identifier lies.identifier.order)) };
      refuses = λ number z e. absurd cc;
    }
