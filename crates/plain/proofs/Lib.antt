mod Stores
