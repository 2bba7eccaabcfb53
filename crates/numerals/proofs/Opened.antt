-- `unfolding opened` opens every definition of specs/ that computes, for a fact that is closed by computing it.
use Rattle.numerals.specs.Texts.{bytes, take_while}
use Rattle.numerals.specs.Numerals.{number_of, first_number, numeral_of, digits_of}

unfoldable pub opened : Unit {0}
unfolding bytes take_while number_of first_number numeral_of digits_of
opened = tt
