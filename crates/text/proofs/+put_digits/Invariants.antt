use Rattle.text.proofs.+put_digits.Given as goal

-- The measure is the number: the call of itself writes all digits but the last.
abbrev pub decreases-put_digits : goal.decreases-put_digits
decreases-put_digits l = l.x
