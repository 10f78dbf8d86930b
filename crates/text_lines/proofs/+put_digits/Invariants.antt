-- The measure of the recursion put_digits is the number of digits left: a call of itself writes those before the last.
use Rattle.text_lines.proofs.+put_digits.Given as goal

abbrev pub decreases-put_digits : goal.decreases-put_digits
decreases-put_digits l = l.k
