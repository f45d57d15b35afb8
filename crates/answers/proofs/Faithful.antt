-- What an answer tells is the whole answer: two answers that tell the same are the same.
use mathlib.Core.Bool.{true, false}
use mathlib.Core.Path.{◌≡◌, refl}
use Rattle.answers.specs.Pick.{pick}
use Rattle.answers.specs.declared.Change.{Change}
use Rattle.answers.specs.declared.Change.TheVariants as change
use Rattle.answers.specs.declared.Count.{Count}
use Rattle.answers.specs.declared.Count.TheVariants as count
use Rattle.answers.specs.declared.Flag.{Flag}
use Rattle.answers.specs.declared.Flag.TheVariants as flag
use Rattle.answers.specs.Told.{change_told, count_told, flag_told}

pub change_told_lem : (x y : Change) → change_told x ≡ change_told y → x ≡ y
change_told_lem (change.Refused m) (change.Refused n) e = cc
change_told_lem (change.Refused m) change.Done e = cc
change_told_lem change.Done (change.Refused n) e = cc
change_told_lem change.Done change.Done e = refl

pub count_told_lem : (x y : Count) → count_told x ≡ count_told y → x ≡ y
count_told_lem (count.Refused m) (count.Refused n) e = cc
count_told_lem (count.Refused m) (count.Is n) e = cc
count_told_lem (count.Is m) (count.Refused n) e = cc
count_told_lem (count.Is m) (count.Is n) e = cc

pub flag_told_lem : (x y : Flag) → flag_told x ≡ flag_told y → x ≡ y
unfolding pick
flag_told_lem (flag.Refused m) (flag.Refused n) e = cc
flag_told_lem (flag.Refused m) (flag.Is true) e = cc
flag_told_lem (flag.Refused m) (flag.Is false) e = cc
flag_told_lem (flag.Is true) (flag.Refused n) e = cc
flag_told_lem (flag.Is false) (flag.Refused n) e = cc
flag_told_lem (flag.Is true) (flag.Is true) e = refl
flag_told_lem (flag.Is true) (flag.Is false) e = cc
flag_told_lem (flag.Is false) (flag.Is true) e = cc
flag_told_lem (flag.Is false) (flag.Is false) e = refl
