-- `making::writing::put_unit` meets its contract: the header of the unit, its name, the header of the text and the text.
use mathlib.Core.Path.{◌≡◌, ap, sym, ◌∙◌, subst}
use mathlib.Core.List.{List, ◌∷◌}
use Prim.Native.Nat.{ℕ, ◌+◌}
use native.Mathlib.Omega.{arith}
use lib.ListN.{length-append}
use Rattle.names.specs.Names.{space_byte}
use Rattle.normal.specs.Normal.{further_octets}
use Rattle.normal.specs.Passes.{PutsOctets}
use Rattle.normal.proofs.Lengths.{length-length, further-le}
use Rattle.elements.specs.ElementRows.{bytes_in}
use Rattle.making.specs.Entries.{said_by}
use Rattle.making.specs.Octets.{name_size, unit_size_by}
use Rattle.making.specs.Lent.{names_of, text_of}
use Rattle.making.proofs.Putting.{puts_then}
use Rattle.making.proofs.Sizes.{part-size, names-size, text-size, unit-by}
use Rattle.making.proofs.writing.put_unit.Goals as goal

pub put_header-headed-requires : goal.put_header-headed-requires
put_header-headed-requires c =
    let size_of = c.size_of in
    let size_of2 = c.size_of-2 in
    let size_of3 = c.size_of-text in
    let buffer = c.args.buffer.now in
    let entry = c.args.entry in
    let lies = c.requires.0 in
    let n : size_of.result + size_of2.result ≡ names_of entry = omega (arith, size_of.ensures, size_of2.ensures) in
    let u : c.unit_size.result ≡ unit_size_by (names_of entry) (text_of entry) = c.unit_size.ensures ∙ ap (λ (k : ℕ). unit_size_by k size_of3.result) n
    ∙ ap (unit_size_by (names_of entry)) size_of3.ensures in
    let v : further_octets c.unit_size.result ≡ further_octets (unit_size_by (names_of entry) (text_of entry)) = ap further_octets u in
    let few = further-le (text_of entry) in
    (omega (arith, lies.short, c.requires.1), omega (arith, c.requires.2))

pub put_name-named-requires : goal.put_name-named-requires
put_name-named-requires c =
    let size_of = c.size_of in
    let size_of2 = c.size_of-2 in
    let size_of3 = c.size_of-text in
    let unit_size = c.unit_size in
    let buffer = c.args.buffer.now in
    let entry = c.args.entry in
    let lies = c.requires.0 in
    let n : size_of.result + size_of2.result ≡ names_of entry = omega (arith, size_of.ensures, size_of2.ensures) in
    let u : unit_size.result ≡ unit_size_by (names_of entry) (text_of entry) = unit_size.ensures ∙ ap (λ (k : ℕ). unit_size_by k size_of3.result) n
    ∙ ap (unit_size_by (names_of entry)) size_of3.ensures in
    let v : further_octets unit_size.result ≡ further_octets (unit_size_by (names_of entry) (text_of entry)) = ap further_octets u in
    let few = further-le (text_of entry) in
    let h = length-length unit_size.result in
    (lies, n, omega (arith, c.requires.2, c.put_header-headed.ensures.to, c.put_header-headed.auto.out))

pub put_header-held-requires : goal.put_header-held-requires
put_header-held-requires c =
    let size_of = c.size_of in
    let size_of2 = c.size_of-2 in
    let size_of3 = c.size_of-text in
    let unit_size = c.unit_size in
    let buffer = c.args.buffer.now in
    let entry = c.args.entry in
    let lies = c.requires.0 in
    let n : size_of.result + size_of2.result ≡ names_of entry = omega (arith, size_of.ensures, size_of2.ensures) in
    let u : unit_size.result ≡ unit_size_by (names_of entry) (text_of entry) = unit_size.ensures ∙ ap (λ (k : ℕ). unit_size_by k size_of3.result) n
    ∙ ap (unit_size_by (names_of entry)) size_of3.ensures in
    let v : further_octets unit_size.result ≡ further_octets (unit_size_by (names_of entry) (text_of entry)) = ap further_octets u in
    let few = further-le (text_of entry) in
    let h = length-length unit_size.result in
    let i = part-size buffer entry.identifier lies.identifier in
    let p = part-size buffer entry.portion lies.portion in
    let l = length-append (bytes_in buffer entry.identifier) (space_byte ∷ bytes_in buffer entry.portion) in
    let t : further_octets size_of3.result ≡ further_octets (text_of entry) = ap further_octets size_of3.ensures in (
      omega (arith, c.requires.1, size_of3.ensures),
      omega (arith, c.requires.2, size_of3.ensures, c.put_header-headed.ensures.to, c.put_header-headed.auto.out, c.put_name-named.ensures.to, c.put_name-named.auto.out),
    )

pub put_part-requires : goal.put_part-requires
put_part-requires c =
    let size_of = c.size_of in
    let size_of2 = c.size_of-2 in
    let size_of3 = c.size_of-text in
    let unit_size = c.unit_size in
    let buffer = c.args.buffer.now in
    let entry = c.args.entry in
    let lies = c.requires.0 in
    let n : size_of.result + size_of2.result ≡ names_of entry = omega (arith, size_of.ensures, size_of2.ensures) in
    let u : unit_size.result ≡ unit_size_by (names_of entry) (text_of entry) = unit_size.ensures ∙ ap (λ (k : ℕ). unit_size_by k size_of3.result) n
    ∙ ap (unit_size_by (names_of entry)) size_of3.ensures in
    let v : further_octets unit_size.result ≡ further_octets (unit_size_by (names_of entry) (text_of entry)) = ap further_octets u in
    let few = further-le (text_of entry) in
    let h = length-length unit_size.result in
    let i = part-size buffer entry.identifier lies.identifier in
    let p = part-size buffer entry.portion lies.portion in
    let l = length-append (bytes_in buffer entry.identifier) (space_byte ∷ bytes_in buffer entry.portion) in
    let t : further_octets size_of3.result ≡ further_octets (text_of entry) = ap further_octets size_of3.ensures in
    let g = length-length size_of3.result in (
      lies.text,
      omega (
        arith,
        c.requires.2,
        size_of3.ensures,
        c.put_header-headed.ensures.to,
        c.put_header-headed.auto.out,
        c.put_name-named.ensures.to,
        c.put_name-named.auto.out,
        c.put_header-held.ensures.to,
        c.put_header-held.auto.out,
      ),
    )

pub returns : goal.returns
returns c =
    let size_of = c.size_of in
    let size_of2 = c.size_of-2 in
    let size_of3 = c.size_of-text in
    let unit_size = c.unit_size in
    let buffer = c.args.buffer.now in
    let entry = c.args.entry in
    let lies = c.requires.0 in
    let n : size_of.result + size_of2.result ≡ names_of entry = omega (arith, size_of.ensures, size_of2.ensures) in
    let u : unit_size.result ≡ unit_size_by (names_of entry) (text_of entry) = unit_size.ensures ∙ ap (λ (k : ℕ). unit_size_by k size_of3.result) n
    ∙ ap (unit_size_by (names_of entry)) size_of3.ensures in
    let v : further_octets unit_size.result ≡ further_octets (unit_size_by (names_of entry) (text_of entry)) = ap further_octets u in
    let said = said_by buffer entry in
    let names = names-size buffer entry lies in
    let text = text-size buffer entry lies in
    let w = u ∙ ap (λ (k : ℕ). unit_size_by k (text_of entry)) (sym names) ∙ ap (unit_size_by (name_size said)) (sym text) in
    subst (λ (xs : List ℕ). PutsOctets c.args.out.now c.args.at xs c.put_part.result c.put_part.new.out)
    (unit-by said unit_size.result (size_of.result + size_of2.result) size_of3.result w (n ∙ sym names) (size_of3.ensures ∙ sym text))
    (puts_then c.put_header-headed.ensures (puts_then c.put_name-named.ensures (puts_then c.put_header-held.ensures c.put_part.ensures)))
