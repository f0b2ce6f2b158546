-- Lists of numbers, and entries of maps.
-- Counting: how many distinct numbers a list has.
-- Members: members of lists of numbers.
-- Between: the numbers between two bounds that are in a list.
-- Maps: the contracts of a map, restated as look-ups by number.
pub mod Counting
pub mod Members
pub mod Between
pub mod Maps
