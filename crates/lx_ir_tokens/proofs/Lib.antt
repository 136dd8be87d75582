mod Distinct
mod Growing
mod KeptLines
mod Numbered
mod OneReading
mod Ranges
mod Scanned
